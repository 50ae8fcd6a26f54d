-- Programming (01, 'Programming'): a write falls into four-byte units in rising address; a unit is done or not; a byte is stored as old AND new.
--
-- In order: lists of bytes that are all 0xFF; bytes stored at an address; the units of a write; units done one after the other; images between two,
-- and cuts of a plan, with two statements on them (proved in proofs/Cuts).
-- A power cut after n units of a plan, and a call told to stop after n, leave `run (take n plan) image`.
-- Assumes that a unit is done or not, which is the flash's part.
use Rattle.std.specs.List.{list_all}
use Rattle.std.specs.Prelude.{◌≡◌, Bool, true, ◌&&◌, cond, List, [], ◌∷◌, ℕ, zero, suc, ◌+◌, eqb, take}
use Rattle.std.specs.Int.Bits.{bit_and}

-- ---- tests of a whole list

-- each element passes; true of an empty list
abbrev pub every : {A : Type 0} → (A → Bool) → List A → Bool
every = list_all

-- the state of an erased byte
abbrev pub is_ones : ℕ → Bool
is_ones byte = eqb byte 0xFF

-- all bytes are 0xFF
unfoldable pub all_ones : List ℕ → Bool
all_ones bytes = every is_ones bytes

-- ---- bytes at an address

-- each byte from the address on becomes old AND new; there is nothing past the image's end
unfoldable pub program : List ℕ → ℕ → List ℕ → List ℕ
program [] address bytes = []
program (old ∷ image) zero [] = old ∷ image
program (old ∷ image) zero (new ∷ bytes) = bit_and old new ∷ program image zero bytes
program (old ∷ image) (suc address) bytes = old ∷ program image address bytes

-- ---- units

-- an address, and the four bytes programmed there
pub data Unit4 : Type 0 where
  unit : ℕ → List ℕ → Unit4

-- a tail of one to three bytes, already padded with 0xFF: not written if it is all 0xFF
abbrev pub tail_units : ℕ → List ℕ → List Unit4
tail_units address bytes = cond (all_ones bytes) [] (unit address bytes ∷ [])

-- the units of a write, in rising address; an empty write has none
unfoldable pub units : ℕ → List ℕ → List Unit4
units address [] = []
units address (a ∷ []) = tail_units address (a ∷ 0xFF ∷ 0xFF ∷ 0xFF ∷ [])
units address (a ∷ b ∷ []) = tail_units address (a ∷ b ∷ 0xFF ∷ 0xFF ∷ [])
units address (a ∷ b ∷ c ∷ []) = tail_units address (a ∷ b ∷ c ∷ 0xFF ∷ [])
units address (a ∷ b ∷ c ∷ d ∷ bytes) = unit address (a ∷ b ∷ c ∷ d ∷ []) ∷ units (address + 4) bytes

-- the units done one after the other
unfoldable pub run : List Unit4 → List ℕ → List ℕ
run [] image = image
run (unit address bytes ∷ plan) image = run plan (program image address bytes)

-- ---- cuts

-- no bit of the new bytes is set that is clear in the old
pub data OnlyClears : List ℕ → List ℕ → Type 0 where
  clears_nil : OnlyClears [] []
  clears_cons : {y x : ℕ} {old new : List ℕ} → bit_and y x ≡ x → OnlyClears old new → OnlyClears (y ∷ old) (x ∷ new)

-- of the bits that the new image clears some are cleared, and no other
pub record Between (old mid new : List ℕ) : Type 0 where
  pub begun : OnlyClears old mid
  pub left : OnlyClears mid new

-- n whole units of a plan, and any of the bits that the next unit clears
abbrev pub CutAt : List Unit4 → List ℕ → ℕ → List ℕ → Type 0
CutAt plan image n cut = Between (run (take n plan) image) cut (run (take (suc n) plan) image)

-- a cut after n whole units is one: nothing of the next unit has begun
abbrev pub WholeUnitsCut : Type 0
WholeUnitsCut = (plan : List Unit4) (image : List ℕ) (n : ℕ) → CutAt plan image n (run (take n plan) image)

-- a cut sets no bit of the image, and clears none that the whole plan leaves set
abbrev pub CutLiesBetween : Type 0
CutLiesBetween =
    (plan : List Unit4) (image : List ℕ) (n : ℕ) (cut : List ℕ) → CutAt plan image n cut
    → OnlyClears image cut × OnlyClears cut (run plan image)
