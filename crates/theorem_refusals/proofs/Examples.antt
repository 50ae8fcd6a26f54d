-- What the statements ask is met. A sector of no bytes is refused by load data, and by opening at any n; there is an entry of an unknown type that
-- would load with 0xFF in place of its type byte, and one of type 0xFF that loads.
use mathlib.Core.Path.{◌≡◌, refl}
use mathlib.Core.Bool.{true}
use mathlib.Core.List.{List, []}
use Prim.Native.Nat.{ℕ}
use lib.ListN.{replicate, set}
use Rattle.crc.specs.Crc.{shift, shifts, intake, register, crc32}
use Rattle.flash.specs.Flash.{all_ones}
use Rattle.sector.specs.Item.{item_crc, loads, item_bytes}
use Rattle.sector.specs.Types.{item_type}
use Rattle.call_load_data.specs.Payload.{data_answer}
use Rattle.opening.specs.Opening.{opening_stopped}
use Rattle.theorem_writing.specs.Promises.{is_refusal}
use Rattle.theorem_refusals.specs.UnknownType.{Unknown}
use Rattle.theorem_refusals.proofs.UnknownType.{unknown_by_test}

-- ---- refusals

pub load_data_refuses : is_refusal (data_answer [] 0 0).answer ≡ true
unfolding data_answer
load_data_refuses = refl

pub opening_refuses : (n : ℕ) → is_refusal (opening_stopped [] n).answer ≡ true
unfolding opening_stopped
opening_refuses n = refl

-- ---- unknown types

-- an item of type Any, and what is left of it where its type byte lost bits
abbrev any : List ℕ
any = item_bytes 1 0xFF 1 0xFF (replicate 16 0x75) (replicate 8 0)

abbrev damaged : List ℕ
damaged = set any 1 0x05

pub damaged_is_unknown : Unknown damaged
unfolding item_bytes item_type
damaged_is_unknown = unknown_by_test damaged refl

pub loads_as_any : loads (set damaged 1 0xFF) ≡ true
unfolding item_bytes item_crc shift shifts intake register crc32 all_ones item_type loads
loads_as_any = refl

pub any_loads : loads any ≡ true
unfolding item_bytes item_crc shift shifts intake register crc32 all_ones item_type loads
any_loads = refl
