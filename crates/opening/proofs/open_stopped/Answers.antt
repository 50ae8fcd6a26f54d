-- `open_stopped` meets its contract: the length is tested first, then each verdict on the header answers as `answer_for` and programs as `plan_for`.
use mathlib.Core.Path.{◌≡◌, refl, sym, ap, ◌∙◌}
use mathlib.Core.List.{List, []}
use borrow.Author.Tests.{eq-eqb, ne_eqb, le-ltb}
use native.Mathlib.Omega.{arith}
use Prim.Native.Nat.{ℕ}
use mathlib.Core.Bool.{Bool, true, false, cond}
use lib.Dec.{ltb}
use lib.Seq.{take-nil}
use lib.ListN.{length, take}
use Rattle.flash.specs.Flash.{Unit4, run}
use Rattle.page.specs.Record.{Page, uninitialized}
use Rattle.page.specs.Writing.{Outcome, answered, stops}
use Rattle.sector.specs.Answers.{Done}
use Rattle.sector.specs.declared.Refusal.{Refusal}
use Rattle.sector.specs.declared.Refusal.TheVariants.{Stopped}
use Rattle.sector.specs.Layout.{sector_size}
use Rattle.opening_found.specs.Found.{header_verdict_of}
use Rattle.std.specs.Prelude.{Result, Ok, Err}
use Rattle.opening_found.specs.declared.Header.{Header}
use Rattle.opening_found.specs.declared.HeaderError.{HeaderError}
use Rattle.opening.specs.Opening.{opened_page, opening_plan, answer_for, plan_for, opening_stopped, opening_stopped_image}
use Rattle.opening.proofs.Laws.{handed}
use Rattle.opening.proofs.open_stopped.Goals as goal

-- a plan of no units is never stopped
no_stop : (n : ℕ) → ltb n 0 ≡ false
no_stop n = le-ltb n 0 (omega arith)

-- past the length's test the header's verdict decides
decided : (image : List ℕ) (n : ℕ) (verdict : Result Header HeaderError) → length image ≡ sector_size → header_verdict_of image ≡ verdict
    → (opening_stopped image n ≡ cond (stops n (plan_for verdict image)) (answered (Err Stopped) uninitialized) (answer_for verdict image))
    × (opening_stopped_image image n ≡ run (take n (plan_for verdict image)) image)
unfolding opening_stopped opening_stopped_image
decided image n verdict long e =
    let whole = eq-eqb (length image) 4096 long in
    rw (whole, e) (refl, refl)

-- where the verdict programs nothing, the answer is all
answered_only : {opened : Result Page Refusal} (image : List ℕ) (n : ℕ) (verdict : Result Header HeaderError) → length image ≡ sector_size
    → header_verdict_of image ≡ verdict → plan_for verdict image ≡ [] → opened ≡ handed (answer_for verdict image)
    → (opened ≡ handed (opening_stopped image n)) × (image ≡ opening_stopped_image image n)
unfolding run
answered_only image n verdict long e none made =
    let result = decided image n verdict long e in
    (made ∙ ap handed (sym (rw (none, no_stop n) at result.0)), sym (rw (none, take-nil {A = Unit4} n) at result.1))

handed_cond : (stopped : Bool) (image : List ℕ)
    → ◌≡◌ {A = Result Page Refusal} (cond stopped (Err Stopped) (Ok (opened_page image)))
    (handed (cond stopped (answered (Err Stopped) uninitialized) (answered Done (opened_page image))))
handed_cond true image = refl
handed_cond false image = refl

pub returns-then-image-ne-SECTOR_SIZE : goal.returns-then-image-ne-SECTOR_SIZE
unfolding opening_stopped opening_stopped_image
returns-then-image-ne-SECTOR_SIZE c =
    let other = ne_eqb (length c.args.image.now) 4096 c.if-image-ne-SECTOR_SIZE.true in
    record { opened = rw other; image = rw other }

pub returns-in-Ok-Blank : goal.returns-in-Ok-Blank
returns-in-Ok-Blank c =
    let blank = sym c.header_verdict.ensures ∙ c.in-Ok-Blank.is ∙ ap Ok c.in-Ok-Blank.field-0-is in
    let both = answered_only c.args.image.now c.args.stop _ c.if-image-ne-SECTOR_SIZE.false blank refl (ap Ok c.uninitialized.ensures) in
    record { opened = both.0; image = both.1 }

pub returns-in-Err : goal.returns-in-Err
returns-in-Err c =
    let both = answered_only c.args.image.now c.args.stop _ c.if-image-ne-SECTOR_SIZE.false (sym c.header_verdict.ensures ∙ c.in-Err.is) refl refl in
    record { opened = both.0; image = both.1 }

pub returns-in-Ok-Opens : goal.returns-in-Ok-Opens
returns-in-Ok-Opens c =
    let opens = sym c.header_verdict.ensures ∙ c.in-Ok-Opens.is ∙ ap Ok c.in-Ok-Opens.field-0-is in
    let result = decided c.args.image.now c.args.stop _ c.if-image-ne-SECTOR_SIZE.false opens in
    record { opened = c.open_entries.ensures.opened ∙ handed_cond (stops c.args.stop (opening_plan c.args.image.now)) c.args.image.now ∙ ap handed (sym result.0); image = c.open_entries.ensures.image ∙ sym result.1 }
