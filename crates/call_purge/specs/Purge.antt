-- Purge (01, 'Purge'): entries are zeroed; no record is taken, and the map stays.
use Rattle.std.specs.Prelude.{cond, List, [], ◌∷◌, ℕ, ◌-◌, ◌*◌, min, max, ltb, replicate}
use Rattle.flash.specs.Flash.{Unit4, units}
use Rattle.page.specs.Writing.{bad_image, image_after}
use Rattle.sector.specs.Answers.{Answer, refusal}
use Rattle.sector.specs.Layout.{entries_per_page, entry_size, entry_address}

-- held between 1 and 126 - index
abbrev pub held_span : ℕ → ℕ → ℕ
held_span index span = max 1 (min span (entries_per_page - index))

-- an index over 125 does nothing
unfoldable pub purge_plan : ℕ → ℕ → List Unit4
purge_plan index span =
    cond (ltb index entries_per_page) (units (entry_address index) (replicate (entry_size * held_span index span) 0)) []

unfoldable pub purge : List ℕ → Answer
purge image = refusal (bad_image image ∷ [])

unfoldable pub purge_image : List ℕ → ℕ → ℕ → List ℕ
purge_image image index span = image_after (bad_image image ∷ []) (purge_plan index span) image
