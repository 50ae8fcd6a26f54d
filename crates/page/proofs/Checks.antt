-- Laws of a writing call's checks: what accepted ones tell of its image and record, and what the call then owes.
use mathlib.Core.Path.{◌≡◌, refl, ap, ◌∙◌}
use mathlib.Core.Bool.{Bool, true, false, cond}
use mathlib.Core.List.{List, [], ◌∷◌}
use Prim.Native.Nat.{ℕ, ◌+◌, ◌≤◌}
use native.Mathlib.Omega.{arith}
use lib.Dec.{ltb}
use lib.ListN.{length, take}
use borrow.Author.Tests.{eqb-true, ltb-false, not-false}
use Rattle.flash.specs.Flash.{Unit4, run}
use Rattle.std.specs.Prelude.{Err}
use Rattle.sector.specs.declared.Refusal.TheVariants.{BadImage, BadRecord, WrongState, PageFull, Stopped}
use Rattle.sector.specs.Answers.{Answer, Done, Check, refusal, accepted}
use Rattle.sector.specs.Layout.{sector_size, entries_per_page}
use Rattle.sector.proofs.Laws.{accepted_head, accepted_tail}
use Rattle.page.specs.Record.{Page, next_free, free, fit_to_use}
use Rattle.page.specs.Writing.{Outcome, bad_image, bad_record, over_free, answered, outcome, image_after, stops}

-- ---- what accepted checks tell

-- of an image's length
pub accepted_image : (image : List ℕ) (checks : List Check) → accepted (bad_image image ∷ checks) ≡ true → length image ≡ sector_size
accepted_image image checks h =
    eqb-true (length image) sector_size (not-false _ (accepted_head (bad_image image).0 BadImage checks h))

-- of a record's fitness
pub accepted_record : (page : Page) (checks : List Check) → accepted (bad_record page ∷ checks) ≡ true → fit_to_use page ≡ true
accepted_record page checks h = not-false _ (accepted_head (bad_record page).0 BadRecord checks h)

-- of the room for an item
pub accepted_room : (page : Page) (span : ℕ) → 1 ≤ span → accepted (over_free page span ∷ []) ≡ true → next_free page + span ≤ entries_per_page
accepted_room page span one h =
    let fits : span ≤ free page = ltb-false (free page) span (accepted_head (over_free page span).0 PageFull [] h) in
    omega arith

-- what the first three checks tell of an image and a record, and what is left to check
pub record Usable (image : List ℕ) (page : Page) (wrong : Bool) (checks : List Check) : Type 0 where
  pub whole : length image ≡ sector_size
  pub fit : fit_to_use page ≡ true
  pub state : wrong ≡ false
  pub rest : accepted checks ≡ true

pub accepted_usable : (image : List ℕ) (page : Page) (wrong : Bool) (checks : List Check)
    → accepted (bad_image image ∷ bad_record page ∷ (wrong, WrongState) ∷ checks) ≡ true → Usable image page wrong checks
accepted_usable image page wrong checks h =
    let behind_image = accepted_tail (bad_image image).0 BadImage (bad_record page ∷ (wrong, WrongState) ∷ checks) h in
    let behind_record = accepted_tail (bad_record page).0 BadRecord ((wrong, WrongState) ∷ checks) behind_image in
    record {
      whole = accepted_image image (bad_record page ∷ (wrong, WrongState) ∷ checks) h;
      fit = accepted_record page ((wrong, WrongState) ∷ checks) behind_image;
      state = accepted_head wrong WrongState checks behind_record;
      rest = accepted_tail wrong WrongState checks behind_record;
    }

-- ---- what a writing call owes: its outcome and its image

module _ (checks : List Check) (page new : Page) (image : List ℕ) where
  -- where a check refuses
  pub call_refused : (stopped : Bool) (plan : List Unit4) {answer : Answer} → answer ≡ refusal checks → accepted checks ≡ false
      → (answer ≡ (outcome checks stopped page new).answer) × (page ≡ (outcome checks stopped page new).page) × (image ≡ image_after checks plan image)
  call_refused stopped plan e refused = rw refused (e, refl, refl)

  -- where no check refuses
  pub call_ended : (n : ℕ) (plan : List Unit4) {total : ℕ} {made left : Page} {after : List ℕ} {answer : Answer} → accepted checks ≡ true
      → total ≡ length plan → made ≡ new → after ≡ run (take n plan) image
      → answer ≡ cond (ltb n total) (Err Stopped) Done → left ≡ cond (ltb n total) page made
      → (answer ≡ (outcome checks (stops n plan) page new).answer) × (left ≡ (outcome checks (stops n plan) page new).page)
      × (after ≡ image_after checks (take n plan) image)
  call_ended n plan passed e m run_to a l =
      rw passed (a ∙ rw e (cond_answer (stops n plan)), l ∙ rw (e, m) (cond_page (stops n plan)), run_to)
    where
      cond_answer : (b : Bool) → cond b (Err Stopped) Done ≡ (cond b (answered (Err Stopped) page) (answered Done new)).answer
      cond_answer true = refl
      cond_answer false = refl

      cond_page : (b : Bool) → cond b page new ≡ (cond b (answered (Err Stopped) page) (answered Done new)).page
      cond_page true = refl
      cond_page false = refl

  -- where the call cannot be stopped
  pub call_whole : (plan : List Unit4) {made : Page} {after : List ℕ} → accepted checks ≡ true → made ≡ new → after ≡ run plan image
      → (Done ≡ (outcome checks false page new).answer) × (made ≡ (outcome checks false page new).page) × (after ≡ image_after checks plan image)
  call_whole plan passed m run_to = rw passed (refl, m, run_to)
