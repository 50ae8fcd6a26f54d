-- Reading items (01, 'Load'): the map is not consulted, so an erased item still loads.
--
-- In order: raw read; load. Not here: load data (crate call_load_data).
use Rattle.std.specs.Prelude.{not, cond, List, [], ◌∷◌, ℕ, eqb, ltb, length, replicate}
use Rattle.sector.specs.declared.Refusal.TheVariants.{BadImage, KeyNotFound, CorruptedData}
use Rattle.sector.specs.Answers.{Done, Answer, Check, refusal, accepted}
use Rattle.sector.specs.Item.{loads}
use Rattle.sector.specs.Layout.{sector_size, entries_per_page, entry_size, entry_at}

-- what raw read and load answer: an entry's 32 bytes, all zero where the answer is not Done
pub record Loaded : Type 0 where
  pub answer : Answer
  pub item : List ℕ

-- ---- raw read

-- zeros, with a refusal
abbrev pub refused_item : Answer → Loaded
refused_item answer = record { answer = answer; item = replicate entry_size 0 }

-- image not 4,096 bytes, then an index over 125
abbrev pub entry_checks : List ℕ → ℕ → List Check
entry_checks image i =
    (not (eqb (length image) sector_size), BadImage) ∷ (not (ltb i entries_per_page), CorruptedData) ∷ []

-- the item, or zeros with the first refusal
abbrev pub loaded_or : List Check → List ℕ → Loaded
loaded_or checks item =
    cond (accepted checks)
    (record { answer = Done; item = item })
    (refused_item (refusal checks))

-- the 32 bytes as they lie
unfoldable pub raw_entry : List ℕ → ℕ → Loaded
raw_entry image i = loaded_or (entry_checks image i) (entry_at image i)

-- ---- load

-- then an entry that does not load: all 0xFF, of an unknown type, or its CRC wrong
abbrev pub load_checks : List ℕ → ℕ → List Check
load_checks image i =
    (not (eqb (length image) sector_size), BadImage)
    ∷ (not (ltb i entries_per_page), CorruptedData)
    ∷ (not (loads (entry_at image i)), KeyNotFound)
    ∷ []

-- the 32 bytes as they lie
unfoldable pub load_item : List ℕ → ℕ → Loaded
load_item image i = loaded_or (load_checks image i) (entry_at image i)
