-- What an opening hands back, as a Result: its record where it is done. On a refusal and a stop the definitions have the Uninitialized record.
use mathlib.Core.Path.{◌≡◌, refl}
use mathlib.Core.Bool.{Bool, true, false, cond}
use mathlib.Core.List.{List}
use Prim.Native.Nat.{ℕ}
use lib.Dec.{eqb}
use lib.ListN.{length}
use Rattle.std.specs.Prelude.{Result, Ok, Err}
use Rattle.sector.specs.declared.Refusal.{Refusal}
use Rattle.sector.specs.declared.Refusal.TheVariants.{BadImage, Stopped}
use Rattle.sector.specs.Answers.{value_where_done, value_in}
use Rattle.sector.specs.Layout.{sector_size}
use Rattle.page.specs.Record.{Page, uninitialized}
use Rattle.page.specs.Writing.{Outcome, answered, stops}
use Rattle.opening_found.specs.declared.Header.{Header}
use Rattle.opening_found.specs.declared.Header.TheVariants.{Blank, Opens}
use Rattle.opening_found.specs.declared.HeaderError.{HeaderError}
use Rattle.opening_found.specs.Found.{header_verdict_of}
use Rattle.opening.specs.Opening.{answer_for, plan_for, opening, opening_stopped}

-- what the code hands back of an outcome
abbrev pub handed : Outcome → Result Page Refusal
handed outcome = value_where_done outcome.answer outcome.page

-- with no record the definition has the Uninitialized one
abbrev RecordLeft : Outcome → Type 0
RecordLeft outcome = value_in uninitialized (handed outcome) ≡ outcome.page

answer_none : (verdict : Result Header HeaderError) (image : List ℕ) → RecordLeft (answer_for verdict image)
answer_none (Ok Blank) image = refl
answer_none (Ok Opens) image = refl
answer_none (Err refused) image = refl

pub opening_none : (image : List ℕ) → value_in uninitialized (value_where_done (opening image).answer (opening image).page) ≡ (opening image).page
unfolding opening
opening_none image = go (eqb (length image) sector_size) (header_verdict_of image)
  where
    go : (whole : Bool) (verdict : Result Header HeaderError) → RecordLeft (cond whole (answer_for verdict image) (answered (Err BadImage) uninitialized))
    go true verdict = answer_none verdict image
    go false verdict = refl

pub opening_stopped_none : (image : List ℕ) (n : ℕ)
    → value_in uninitialized (value_where_done (opening_stopped image n).answer (opening_stopped image n).page) ≡ (opening_stopped image n).page
unfolding opening_stopped
opening_stopped_none image n =
    go (eqb (length image) sector_size) (stops n (plan_for (header_verdict_of image) image)) (header_verdict_of image)
  where
    go : (whole stopped : Bool) (verdict : Result Header HeaderError)
        → RecordLeft (cond whole (cond stopped (answered (Err Stopped) uninitialized) (answer_for verdict image)) (answered (Err BadImage) uninitialized))
    go true true verdict = refl
    go true false verdict = answer_none verdict image
    go false stopped verdict = refl
