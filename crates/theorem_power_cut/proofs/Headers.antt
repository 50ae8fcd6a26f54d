-- Headers that open, and the state word Full on them.
--
-- In order: what of a header decides whether its page opens; the state word; a header with Full programmed, or not.
use mathlib.Core.Path.{◌≡◌, refl, sym, ap, ap₂, ◌∙◌, subst}
use mathlib.Core.Bool.{Bool, true, false, ◌&&◌, not, cond, false≢true, and-eq-true_iff}
use mathlib.Core.List.{List, [], ◌∷◌, ◌++◌}
use mathlib.Core.Logic.{◌⊎◌, inl, inr}
use Prim.Native.Nat.{ℕ, ◌≤◌}
use native.Mathlib.Decide.{dec_le}
use native.Mathlib.Omega.{arith}
use lib.Bits.{bit_and, and_le_l}
use lib.Dec.{eqb}
use lib.ListN.{length, take, drop, take-append-drop}
use lib.Seq.{get_or-drop, drop-drop, length-take-le}
use borrow.Author.Tests.{eqb-true}
use Rattle.crc.specs.Crc.{crc32}
use Rattle.flash.specs.Flash.{units, run, program, all_ones, OnlyClears, clears_nil, clears_cons, Between}
use Rattle.flash.proofs.Laws.{Bytes, bytes_take}
use Rattle.flash.proofs.Cuts.{between_same, between_ends, BeforeBack, before_back}
use Rattle.page.specs.Writing.{full_units}
use Rattle.sector.specs.declared.PageState.TheVariants.{Uninitialized, Active, Full, Freeing, Corrupt, Invalid}
use Rattle.sector.specs.Header.{state_of_word, header_crc, state_bytes, is_uninitialized, is_in_use}
use Rattle.sector.specs.Item.{crc_start}
use Rattle.sector.specs.Layout.{number, little_endian, state_word, version_of, stored_header_crc}
use Rattle.sector.proofs.Laws.{little_endian-number}
use Rattle.opening_found.specs.Found.{header_verdict_of}
use Rattle.std.specs.Prelude.{Ok, Err}
use Rattle.opening_found.specs.declared.Header.TheVariants.{Blank, Opens}
use Rattle.opening_found.specs.declared.HeaderError.TheVariants.{WrongPageState, WrongVersion, WrongHeaderCrc}
use Rattle.theorem_writing.proofs.FitRecords.{known_state}
use Rattle.theorem_power_cut.proofs.AtHand.{field_front, version_front}

-- ---- what decides

-- state, version and CRC of a header
pub record HeaderOpens (header : List ℕ) : Type 0 where
  pub state : is_in_use (state_of_word (state_word header)) ≡ true
  pub version : eqb (version_of header) 0xFE ≡ true
  pub crc : eqb (header_crc header) (stored_header_crc header) ≡ true

-- where the page opens none of the rules holds, and it is blank by its own rule alone
by_rules : (blank state version crc : Bool)
    → let verdict = cond blank (Ok Blank) (cond (not state) (Err WrongPageState) (cond (not version) (Err WrongVersion) (cond (not crc) (Err WrongHeaderCrc) (Ok Opens)))) in
    (verdict ≡ Ok Opens → (state ≡ true) × (version ≡ true) × (crc ≡ true)) × (verdict ≡ Ok Blank → blank ≡ true)
by_rules true state version crc = ((λ e. (cc, cc, cc)), (λ e. refl))
by_rules false false version crc = ((λ e. (cc, cc, cc)), (λ e. cc))
by_rules false true false crc = ((λ e. (cc, cc, cc)), (λ e. cc))
by_rules false true true false = ((λ e. (cc, cc, cc)), (λ e. cc))
by_rules false true true true = ((λ e. (refl, refl, refl)), (λ e. cc))

pub opens_facts : (image : List ℕ) → header_verdict_of image ≡ Ok Opens → HeaderOpens image
unfolding header_verdict_of
opens_facts image e =
    let state = state_of_word (state_word image) in
    let facts = (by_rules (is_uninitialized state && all_ones image) (is_in_use state) (eqb (version_of image) 0xFE) (eqb (header_crc image) (stored_header_crc image))).0 e in
    record { state = facts.0; version = facts.1; crc = facts.2 }

pub blank_facts : (image : List ℕ) → header_verdict_of image ≡ Ok Blank → all_ones image ≡ true
unfolding header_verdict_of
blank_facts image e =
    let state = state_of_word (state_word image) in
    let none = (by_rules (is_uninitialized state && all_ones image) (is_in_use state) (eqb (version_of image) 0xFE) (eqb (header_crc image) (stored_header_crc image))).1 e in
    ((and-eq-true_iff (is_uninitialized state) (all_ones image)).0 none).1

pub opens_of : (image : List ℕ) → HeaderOpens image → header_verdict_of image ≡ Ok Opens
unfolding header_verdict_of
opens_of image o = rw (known_state is_in_use refl (state_of_word (state_word image)) o.state, o.state, o.version, o.crc)

-- the header alone decides
module _ (header rest : List ℕ) (size : length header ≡ 32) where
  word_front : state_word (header ++ rest) ≡ state_word header
  word_front = ap number (field_front 0 4 header rest (omega arith))

  crc_front : header_crc (header ++ rest) ≡ header_crc header
  unfolding header_crc
  crc_front = ap (crc32 crc_start) (field_front 4 24 header rest (omega arith))

  stored_front : stored_header_crc (header ++ rest) ≡ stored_header_crc header
  stored_front = ap number (field_front 28 4 header rest (omega arith))

  pub header_opens : HeaderOpens (header ++ rest) → HeaderOpens header
  header_opens o =
      record {
        state = rw word_front at o.state;
        version = rw (version_front header rest size) at o.version;
        crc = rw (crc_front, stored_front) at o.crc;
      }

  pub image_opens : HeaderOpens header → HeaderOpens (header ++ rest)
  image_opens o = record { state = rw word_front o.state; version = rw (version_front header rest size) o.version; crc = rw (crc_front, stored_front) o.crc }

-- ---- the state word

among_active : (word : ℕ) → state_of_word word ≡ Active → word ≡ 0xFFFFFFFE
unfolding state_of_word
among_active word e =
    by_tests (eqb word 0xFFFFFFFF) (eqb word 0xFFFFFFFE) refl (eqb word 0xFFFFFFFC) (eqb word 0xFFFFFFF8) (eqb word 0) e
  where
    by_tests : (a b : Bool) → eqb word 0xFFFFFFFE ≡ b → (c d f : Bool)
        → cond a Uninitialized (cond b Active (cond c Full (cond d Freeing (cond f Invalid Corrupt)))) ≡ Active → word ≡ 0xFFFFFFFE
    by_tests true b h c d f e = cc
    by_tests false true h c d f e = eqb-true word 0xFFFFFFFE h
    by_tests false false h true d f e = cc
    by_tests false false h false true f e = cc
    by_tests false false h false false true e = cc
    by_tests false false h false false false e = cc

-- the bytes of a number are its own
word_bytes : {header : List ℕ} → Bytes header → 4 ≤ length header → number (take 4 header) ≡ 0xFFFFFFFE → take 4 header ≡ state_bytes Active
word_bytes {header} b h e =
    sym (little_endian-number (bytes_take 4 b)) ∙ ap₂ little_endian (length-take-le 4 header h) e

pub active_word : {header : List ℕ} → Bytes header → length header ≡ 32 → state_of_word (state_word header) ≡ Active → take 4 header ≡ state_bytes Active
active_word {header} bytes size e = word_bytes bytes (omega arith) (among_active (state_word header) e)

-- ---- Full, programmed or not

-- an Active header is the state word and what is after it
header_split : (header : List ℕ) → take 4 header ≡ state_bytes Active → header ≡ state_bytes Active ++ drop 4 header
header_split header e = sym (take-append-drop 4 header) ∙ ap (λ (word : List ℕ). word ++ drop 4 header) e

full_programmed : (header : List ℕ) → take 4 header ≡ state_bytes Active → program header 0 (state_bytes Full) ≡ state_bytes Full ++ drop 4 header
unfolding program
full_programmed header e = ap (λ (bytes : List ℕ). program bytes 0 (state_bytes Full)) (header_split header e) ∙ program_nothing (drop 4 header)
  where
    program_nothing : (rest : List ℕ) → program (state_bytes Active ++ rest) 0 (state_bytes Full) ≡ state_bytes Full ++ rest
    program_nothing [] = refl
    program_nothing (x ∷ rest) = refl

-- what the state unit leaves: the header as it was, or Full
pub data FullOrNot (header after : List ℕ) : Type 0 where
  not_full : after ≡ header → FullOrNot header after
  is_full : after ≡ state_bytes Full ++ drop 4 header → FullOrNot header after

-- the state unit clears one bit
one_bit : (byte : ℕ) → bit_and 0xFE byte ≡ byte → bit_and byte 0xFC ≡ 0xFC → (byte ≡ 0xFE) ⊎ (byte ≡ 0xFC)
one_bit byte e f = by_size (omega (arith, and_le_l 0xFE byte)) (omega (arith, and_le_l byte 0xFC)) (dec_le byte 0xFC) (dec_le byte 0xFD)
  where
    by_size : byte ≤ 0xFE → 0xFC ≤ byte → Dec (byte ≤ 0xFC) → Dec (byte ≤ 0xFD) → (byte ≡ 0xFE) ⊎ (byte ≡ 0xFC)
    by_size upper lower (yes h) odd = inr (omega arith)
    by_size upper lower (no h) (yes g) = let is : byte ≡ 0xFD = omega arith in absurd (false≢true (ap (eqb 0xFD) (rw is at e)))
    by_size upper lower (no h) (no g) = inl (omega arith)

word_between : {word : List ℕ} → Between (state_bytes Active) word (state_bytes Full) → (word ≡ state_bytes Active) ⊎ (word ≡ state_bytes Full)
word_between b = by_byte (before_back (0xFE ∷ []) (0xFC ∷ []) refl b)
  where
    by_byte : {word : List ℕ} → BeforeBack (0xFE ∷ []) (0xFC ∷ []) (0xFF ∷ 0xFF ∷ 0xFF ∷ []) word → (word ≡ state_bytes Active) ⊎ (word ≡ state_bytes Full)
    by_byte s = by_clears s.split s.between.begun s.between.left
      where
        by_clears : {word first : List ℕ} → word ≡ first ++ (0xFF ∷ 0xFF ∷ 0xFF ∷ []) → OnlyClears (0xFE ∷ []) first → OnlyClears first (0xFC ∷ [])
            → (word ≡ state_bytes Active) ⊎ (word ≡ state_bytes Full)
        by_clears {word} e (clears_cons {x = byte} x clears_nil) (clears_cons y clears_nil) = by_bit (one_bit byte x y)
          where
            by_bit : (byte ≡ 0xFE) ⊎ (byte ≡ 0xFC) → (word ≡ state_bytes Active) ⊎ (word ≡ state_bytes Full)
            by_bit (inl is) = inl (e ∙ ap (λ (b : ℕ). b ∷ 0xFF ∷ 0xFF ∷ 0xFF ∷ []) is)
            by_bit (inr is) = inr (e ∙ ap (λ (b : ℕ). b ∷ 0xFF ∷ 0xFF ∷ 0xFF ∷ []) is)

-- so a header between the Active one and what the state unit leaves is one of the two
pub full_between : {header after : List ℕ} (end : ℕ) → take 4 header ≡ state_bytes Active → Between header after (run (full_units end) header)
    → FullOrNot header after
unfolding run units all_ones
full_between {header} {after} end e b = by_test (eqb end 126) b
  where
    by_word : (s : BeforeBack (state_bytes Active) (state_bytes Full) (drop 4 header) after)
        → (s.first ≡ state_bytes Active) ⊎ (s.first ≡ state_bytes Full) → FullOrNot header after
    by_word s (inl is) = not_full (s.split ∙ ap (λ (word : List ℕ). word ++ drop 4 header) is ∙ sym (header_split header e))
    by_word s (inr is) = is_full (s.split ∙ ap (λ (word : List ℕ). word ++ drop 4 header) is)

    by_test : (last : Bool) → Between header after (run (cond last (units 0 (state_bytes Full)) []) header) → FullOrNot header after
    by_test true b =
        let s = before_back (state_bytes Active) (state_bytes Full) refl (between_ends (header_split header e) (full_programmed header e) b) in
        by_word s (word_between s.between)
    by_test false b = not_full (between_same b)

pub full_drop : {header after : List ℕ} → FullOrNot header after → drop 4 after ≡ drop 4 header
full_drop (not_full e) = ap (drop 4) e
full_drop (is_full e) = ap (drop 4) e

-- a header that opens still opens
pub full_opens : {header after : List ℕ} → HeaderOpens header → FullOrNot header after → HeaderOpens after
unfolding state_of_word header_crc
full_opens o (not_full e) = subst HeaderOpens (sym e) o
full_opens {header} {after} o (is_full e) =
    subst HeaderOpens (sym e)
    (record {
      state = refl;
      version = ap (λ (v : ℕ). eqb v 0xFE) (get_or-drop 4 header 4 0) ∙ o.version;
      crc = ap (λ (stored : List ℕ). eqb (crc32 crc_start (take 24 (drop 4 header))) (number (take 4 stored))) (drop-drop 24 4 header) ∙ o.crc;
    })

-- the state of a header that Full was programmed on, where no entry is free
pub full_state : (header : List ℕ) (end : ℕ) → take 4 header ≡ state_bytes Active
    → cond (eqb end 126) Full (state_of_word (state_word header)) ≡ state_of_word (state_word (run (full_units end) header))
unfolding state_of_word run units all_ones
full_state header end e = by_test (eqb end 126)
  where
    by_test : (last : Bool)
        → cond last Full (state_of_word (state_word header)) ≡ state_of_word (state_word (run (cond last (units 0 (state_bytes Full)) []) header))
    by_test true = ap (λ (after : List ℕ). state_of_word (state_word after)) (sym (full_programmed header e))
    by_test false = refl
