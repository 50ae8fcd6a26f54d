-- The walk as the code takes it, from index to index: the verdict at an entry of an image, by the map, and the entry that the walk comes to after it.
use Rattle.std.specs.Prelude.{◌≡◌, Option, MatchOption, List, ℕ, ◌+◌, ◌-◌, ◌<◌, ◌≤◌, drop}
use Rattle.std.specs.Iterator.{Count, at_most}
use Rattle.sector.specs.Layout.{entries_per_page, entry_at, entries_of}
use Rattle.sector.specs.Map.{state_at, states_of}
use Rattle.opening_reading.specs.declared.Walk.{Walk}
use Rattle.opening_reading.specs.Reading.{Verdict, verdict_at, steps_over}

-- the verdict at entry i
abbrev pub verdict_of : List ℕ → List ℕ → ℕ → Verdict
verdict_of image map i = verdict_at (state_at map i) (entry_at image i) (drop (i + 1) (states_of map)) (drop (i + 1) (entries_of image))

-- the entry that was reached and its verdict are told, and the walk is after what it steps over
pub record Tells (walk : Walk) (told : ℕ × Verdict) (rest : Walk) : Type 0 where
  pub inside : walk.index < entries_per_page
  pub index : told.0 ≡ walk.index
  pub verdict : told.1 ≡ verdict_of walk.image.now walk.map walk.index
  pub image : rest.image.now ≡ walk.image.now
  pub map : rest.map ≡ walk.map
  pub next : rest.index ≡ walk.index + 1 + steps_over told.1

-- past the last entry nothing is told
abbrev pub GivesVerdict : Walk → Option (ℕ × Verdict) → Walk → Type 0
GivesVerdict walk told rest = MatchOption told (entries_per_page ≤ walk.index) (λ one. Tells walk one rest)

-- no more are told than entries are left
abbrev pub entries_left : Walk → Count
entries_left walk = at_most (entries_per_page - walk.index)
