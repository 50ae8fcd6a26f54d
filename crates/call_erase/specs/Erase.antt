-- Erase (01, 'Erase'): checks in order, plan, new record.
use Rattle.std.specs.Prelude.{Bool, false, ◌||◌, not, List, [], ◌∷◌, ℕ, ◌+◌, eqb, ltb, take, drop}
use Rattle.flash.specs.Flash.{Unit4, every}
use Rattle.page.specs.Record.{Page, with_erased}
use Rattle.page.specs.Writing.{Outcome, bad_image, bad_record, outcome, image_after}
use Rattle.sector.specs.declared.Refusal.TheVariants.{WrongState, CorruptedData, NotWritten}
use Rattle.sector.specs.declared.EntryMapState.TheVariants.{Written, Erased}
use Rattle.sector.specs.Answers.{Check}
use Rattle.sector.specs.Header.{is_in_use}
use Rattle.sector.specs.Layout.{entries_per_page}
use Rattle.sector.specs.Map.{states_of, same_state, mark_range, map_units}

-- all the entries it names are Written in the record
abbrev pub all_written : List ℕ → ℕ → ℕ → Bool
all_written map index span = every (same_state Written) (take span (drop index (states_of map)))

-- span 0 or index + span over 126; an entry not Written
abbrev pub erase_checks : List ℕ → Page → ℕ → ℕ → List Check
erase_checks image page index span =
    bad_image image
    ∷ bad_record page
    ∷ (not (is_in_use page.state), WrongState)
    ∷ (eqb span 0 || ltb entries_per_page (index + span), CorruptedData)
    ∷ (not (all_written page.map index span), NotWritten)
    ∷ []

-- marks alone
unfoldable pub erase_plan : Page → ℕ → ℕ → List Unit4
erase_plan page index span = map_units index span (mark_range Erased index span page.map)

unfoldable pub erase : List ℕ → Page → ℕ → ℕ → Outcome
erase image page index span = outcome (erase_checks image page index span) false page (with_erased page index span)

unfoldable pub erase_image : List ℕ → Page → ℕ → ℕ → List ℕ
erase_image image page index span = image_after (erase_checks image page index span) (erase_plan page index span) image
