-- Any two results that a public call's contract allows are equal (01, 'What the contracts have to say').
--
-- In order: the public functions of this crate, by what their callers learn; the codings that tell answers, states and types apart.
use mathlib.Core.Path.{◌≡◌, sym, ap, ap₂, ◌∙◌}
pub use Rattle.crc.proofs.Unique.{OneResult, OneOutcome, unique, both_unique}
use Rattle.sector.specs.declared.EntryMapState.{EntryMapState}
use Rattle.sector.specs.declared.ItemType.{ItemType}
use Rattle.sector.specs.declared.PageState.{PageState}
use Rattle.sector.specs.Answers.{Answer, number_of, carried_byte, answer_of, answer_number}
use Rattle.sector.proofs.StateBits.{state_bits}
use Rattle.sector.specs.Map.{bits_of, state_of_bits}
use Rattle.sector.specs.Types.{byte_of, item_type, type_byte_lem}
use Rattle.sector.specs.Header.{word_of, state_of_word, state_word_lem}
use Rattle.sector.proofs.bytes.little_endian.Kinds as little_endian_kinds
use Rattle.sector.proofs.bytes.little_endian.Reads as little_endian
use Rattle.sector.proofs.bytes.number_at.Kinds as number_at_kinds
use Rattle.sector.proofs.bytes.number_at.Reads as number_at
use Rattle.sector.proofs.answers.number_of.Kinds as number_of_kinds
use Rattle.sector.proofs.answers.number_of.Reads as number_of_lem

-- ---- the public functions

pub little_endian_unique : OneResult 0 little_endian_kinds.ps little_endian_kinds.r little_endian.Learnt
little_endian_unique κs args x y ex ey p q = unique p q

pub number_at_unique : OneResult 1 number_at_kinds.ps number_at_kinds.r number_at.Learnt
number_at_unique κs args x y ex ey p q = unique p q

pub number_of_unique : OneResult 0 number_of_kinds.ps number_of_kinds.r number_of_lem.Learnt
number_of_unique κs args x y ex ey p q = unique p q

-- ---- codings

pub answer_injective : (a b : Answer) → number_of a ≡ number_of b → carried_byte a ≡ carried_byte b → a ≡ b
answer_injective a b number byte = sym (answer_number a) ∙ ap₂ answer_of number byte ∙ answer_number b

pub bits_injective : (s t : EntryMapState) → bits_of s ≡ bits_of t → s ≡ t
bits_injective s t e = sym (state_bits s) ∙ ap state_of_bits e ∙ state_bits t

pub byte_injective : (s t : ItemType) → byte_of s ≡ byte_of t → s ≡ t
byte_injective s t e = sym (type_byte_lem s) ∙ ap item_type e ∙ type_byte_lem t

pub word_injective : (s t : PageState) → word_of s ≡ word_of t → s ≡ t
word_injective s t e = sym (state_word_lem s) ∙ ap state_of_word e ∙ state_word_lem t
