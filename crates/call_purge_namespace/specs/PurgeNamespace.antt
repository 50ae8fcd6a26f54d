-- Purge by namespace (01, 'Purge'): entries are zeroed; the map and the record stay.
--
-- A list of entries to zero is read off the image as it comes; then their units.
use Rattle.std.specs.Prelude.{Bool, false, ◌&&◌, cond, List, [], ◌∷◌, ◌++◌, ℕ, zero, suc, ◌-◌, eqb, replicate}
use Rattle.flash.specs.Flash.{Unit4, units}
use Rattle.page.specs.Record.{Page}
use Rattle.page.specs.Writing.{Outcome, bad_image, bad_record, outcome, image_after}
use Rattle.sector.specs.declared.EntryMapState.{EntryMapState}
use Rattle.sector.specs.declared.EntryMapState.TheVariants.{Empty, Written, Erased, Illegal}
use Rattle.sector.specs.Answers.{Check}
use Rattle.sector.specs.Item.{loads}
use Rattle.sector.specs.Layout.{entry_size, entry_address, entries_of, namespace_of, span_of}
use Rattle.sector.specs.Map.{states_of}

-- entries to pass after a header that loads; a span of 0 steps by 1 too
abbrev pub behind_header : List ℕ → ℕ
behind_header entry = cond (loads entry) (span_of entry - 1) 0

-- an Erased entry that loads with that namespace
abbrev pub purged : ℕ → EntryMapState → List ℕ → Bool
purged namespace Empty entry = false
purged namespace Written entry = false
purged namespace Erased entry = loads entry && eqb (namespace_of entry) namespace
purged namespace Illegal entry = false

-- the walk steps by a loaded item's span at Erased and Written entries, else by 1
abbrev pub passed : EntryMapState → List ℕ → ℕ
passed Empty entry = 0
passed Written entry = behind_header entry
passed Erased entry = behind_header entry
passed Illegal entry = 0

-- which entries are zeroed; k more are passed, and zeroed where `zeroing`
unfoldable pub to_zero : ℕ → ℕ → Bool → List EntryMapState → List (List ℕ) → List Bool
to_zero namespace k zeroing [] entries = []
to_zero namespace k zeroing (s ∷ states) [] = []
to_zero namespace (suc k) zeroing (s ∷ states) (entry ∷ entries) = zeroing ∷ to_zero namespace k zeroing states entries
to_zero namespace zero zeroing (s ∷ states) (entry ∷ entries) =
    purged namespace s entry ∷ to_zero namespace (passed s entry) (purged namespace s entry) states entries

-- the units that zero the entries marked so, from entry i on
unfoldable pub zero_units : ℕ → List Bool → List Unit4
zero_units i [] = []
zero_units i (z ∷ zs) = cond z (units (entry_address i) (replicate entry_size 0)) [] ++ zero_units (suc i) zs

unfoldable pub purge_namespace_plan : List ℕ → Page → ℕ → List Unit4
purge_namespace_plan image page namespace =
    zero_units 0 (to_zero namespace zero false (states_of page.map) (entries_of image))

abbrev pub purge_namespace_checks : List ℕ → Page → List Check
purge_namespace_checks image page = bad_image image ∷ bad_record page ∷ []

unfoldable pub purge_namespace : List ℕ → Page → ℕ → Outcome
purge_namespace image page namespace = outcome (purge_namespace_checks image page) false page page

unfoldable pub purge_namespace_image : List ℕ → Page → ℕ → List ℕ
purge_namespace_image image page namespace =
    image_after (purge_namespace_checks image page) (purge_namespace_plan image page namespace) image
