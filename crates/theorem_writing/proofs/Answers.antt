-- What accepted checks tell, and that every call does the first of its units.
--
-- In order: checks; what an answer tells; a call's units.
use mathlib.Core.Path.{◌≡◌, refl, sym, ap, ◌∙◌}
use mathlib.Core.Bool.{Bool, true, false, ◌||◌, not, false≢true, and-eq-true_iff}
use mathlib.Core.List.{List, [], ◌∷◌, ◌++◌}
use mathlib.Core.Logic.{◌⊎◌, inl, inr}
use Prim.Native.Nat.{ℕ, zero, suc, ◌+◌, ◌≤◌}
use native.Mathlib.Omega.{arith}
use lib.Dec.{eqb, ltb}
use lib.ListN.{length, take, drop}
use lib.Seq.{take-length}
use borrow.Author.Tests.{ltb-false, le-ltb, eqb-false, not-false}
use Rattle.flash.specs.Flash.{Unit4, every}
use Rattle.flash.proofs.Laws.{neither}
use Rattle.page.specs.Record.{Page, next_free, fit_to_use}
use Rattle.page.specs.Writing.{bad_image, bad_record, not_active, over_free, outcome, image_after, stops}
use Rattle.page.proofs.Checks.{Usable, accepted_room, accepted_usable}
use Rattle.sector.specs.declared.Refusal.TheVariants.{BadImage, KeyNotFound, CorruptedData, ValueTooLong, Stopped}
use Rattle.std.specs.Prelude.{Err}
use Rattle.sector.specs.Answers.{Answer, Done, Check, refusal, accepted}
use Rattle.sector.specs.Header.{is_active}
use Rattle.sector.specs.Item.{loads}
use Rattle.sector.specs.Layout.{entry_at, span_of}
use Rattle.sector.proofs.Laws.{accepted_append, accepted_head, accepted_tail}
use Rattle.call_page_state.specs.Calls.{initialise, initialise_image, mark_full, mark_full_image}
use Rattle.call_append.specs.Append.{single_checks, append_single, append_single_image, span_for, variable_checks, append_variable, append_variable_image}
use Rattle.call_copy.specs.Copy.{copy_checks, copy_in, copy_in_image}
use Rattle.call_erase.specs.Erase.{erase, erase_image}
use Rattle.call_purge_namespace.specs.PurgeNamespace.{purge_namespace, purge_namespace_image}
use Rattle.theorem_writing.specs.Promises.{PutRequest, single, variable, copied, Call, initialising, marking_full, putting, erasing, purging, checks_of, plan_of, new_of, outcome_of, image_of, is_refusal, span_of_new, earlier_checks}

-- ---- checks

-- no check answers Done or Stopped
abbrev pub answers_refusal : Check → Bool
answers_refusal check = is_refusal (Err check.1)

refused : (checks : List Check) → every answers_refusal checks ≡ true → accepted checks ≡ false → is_refusal (refusal checks) ≡ true
refused [] e f = absurd (false≢true (sym f))
refused ((true, answer) ∷ checks) e f = ((and-eq-true_iff (is_refusal (Err answer)) (every answers_refusal checks)).0 e).0
refused ((false, answer) ∷ checks) e f = refused checks ((and-eq-true_iff (is_refusal (Err answer)) (every answers_refusal checks)).0 e).1 f

pub checks_refuse : (call : Call) (image : List ℕ) (page : Page) → every answers_refusal (checks_of call image page) ≡ true
checks_refuse (initialising sequence) image page = refl
checks_refuse marking_full image page = refl
checks_refuse (putting (single item)) image page = refl
checks_refuse (putting (variable item payload)) image page = refl
checks_refuse (putting (copied source i)) image page = refl
checks_refuse (erasing index span) image page = refl
checks_refuse (purging namespace) image page = refl

pub accepted_both : (xs ys : List Check) → accepted (xs ++ ys) ≡ true → (accepted xs ≡ true) × (accepted ys ≡ true)
accepted_both xs ys h = (and-eq-true_iff (accepted xs) (accepted ys)).0 (sym (accepted_append xs ys) ∙ h)

-- a copy that is accepted so far: its span is at least 1, and leaves neither page
pub copied_span : (source : List ℕ) (i : ℕ) (image : List ℕ) (page : Page) → accepted (earlier_checks (copied source i) image page) ≡ true
    → (1 ≤ span_of_new (copied source i)) × (i + span_of_new (copied source i) ≤ 126)
copied_span source i image page h =
    let span = span_of (entry_at source i) in
    let front : List Check =
    bad_image image ∷ bad_image source ∷ bad_record page ∷ not_active page ∷ (not (ltb i 126), CorruptedData) ∷ (not (loads (entry_at source i)), KeyNotFound) ∷ [] in
    let wrong = eqb span 0 || ltb 126 (i + span) in
    let tests = neither (eqb span 0) (ltb 126 (i + span)) (accepted_head wrong CorruptedData [] (accepted_both front ((wrong, CorruptedData) ∷ []) h).1) in
    (positive span (eqb-false span 0 tests.0), ltb-false 126 (i + span) tests.1)
  where
    positive : (span : ℕ) → (span ≡ 0 → ⊥) → 1 ≤ span
    positive zero h = absurd (h refl)
    positive (suc span) h = omega arith

-- what the accepted checks of a call that puts an item tell
pub record Accepts (new : PutRequest) (page : Page) : Type 0 where
  pub fit : fit_to_use page ≡ true
  pub active : is_active page.state ≡ true
  pub one : 1 ≤ span_of_new new
  pub room : next_free page + span_of_new new ≤ 126

accepts_of : {image : List ℕ} {checks : List Check} (new : PutRequest) (page : Page) → Usable image page (not (is_active page.state)) checks
    → 1 ≤ span_of_new new → accepted (over_free page (span_of_new new) ∷ []) ≡ true → Accepts new page
accepts_of new page u one room =
    record { fit = u.fit; active = not-false (is_active page.state) u.state; one = one; room = accepted_room page (span_of_new new) one room }

pub accepts : (new : PutRequest) (image : List ℕ) (page : Page) → accepted (checks_of (putting new) image page) ≡ true → Accepts new page
accepts (single item) image page h =
    accepts_of (single item) page (accepted_usable image page (not (is_active page.state)) (drop 3 (single_checks image page item)) h)
    (omega arith) (accepted_both (earlier_checks (single item) image page) (over_free page 1 ∷ []) h).1
accepts (variable item payload) image page h =
    let span = span_for (length payload) in
    let last : List Check = (ltb 126 span, ValueTooLong) ∷ over_free page span ∷ [] in
    accepts_of (variable item payload) page (accepted_usable image page (not (is_active page.state)) (drop 3 (variable_checks image page item payload)) h) (omega arith)
    (accepted_tail (ltb 126 span) ValueTooLong (over_free page span ∷ []) (accepted_both (earlier_checks (variable item payload) image page) last h).1)
accepts (copied source i) image page h =
    let checks = copy_checks image page source i in
    let parts = accepted_both (earlier_checks (copied source i) image page) (over_free page (span_of (entry_at source i)) ∷ []) h in
    accepts_of (copied source i) page
    (accepted_usable source page (not (is_active page.state)) (drop 4 checks) (accepted_tail (bad_image image).0 BadImage (drop 1 checks) h))
    (copied_span source i image page parts.0).0 parts.1

-- ---- what an answer tells

module _ (checks : List Check) (refuse : every answers_refusal checks ≡ true) (stopped : Bool) (page new : Page) where
  -- 11 is answered where no check refuses and n is below the total
  pub stopped_only : (outcome checks stopped page new).answer ≡ Err Stopped
      → (accepted checks ≡ true) × (stopped ≡ true) × ((outcome checks stopped page new).page ≡ page)
  stopped_only h = by_tests (accepted checks) stopped refl refl h
    where
      by_tests : (ok s : Bool) → accepted checks ≡ ok → stopped ≡ s → (outcome checks stopped page new).answer ≡ Err Stopped
          → (accepted checks ≡ true) × (stopped ≡ true) × ((outcome checks stopped page new).page ≡ page)
      by_tests true true a e h = (a, e, rw (a, e))
      by_tests true false a e h = let wrong : ◌≡◌ {A = Answer} Done (Err Stopped) = (rw (a, e) at h) in let z : ◌≡◌ {A = ℕ} 0 1 = cc in absurd (omega arith)
      by_tests false s a e h =
          let wrong : refusal checks ≡ Err Stopped = (rw a at h) in
          absurd (false≢true (sym (ap is_refusal wrong) ∙ refused checks refuse a))

  -- Done is answered where no check refuses and the whole plan is done, with the new record
  pub done_only : (outcome checks stopped page new).answer ≡ Done
      → (accepted checks ≡ true) × (stopped ≡ false) × ((outcome checks stopped page new).page ≡ new)
  done_only h = by_tests (accepted checks) stopped refl refl h
    where
      by_tests : (ok s : Bool) → accepted checks ≡ ok → stopped ≡ s → (outcome checks stopped page new).answer ≡ Done
          → (accepted checks ≡ true) × (stopped ≡ false) × ((outcome checks stopped page new).page ≡ new)
      by_tests true true a e h = let wrong : ◌≡◌ {A = Answer} (Err Stopped) Done = (rw (a, e) at h) in let z : ◌≡◌ {A = ℕ} 0 1 = cc in absurd (omega arith)
      by_tests true false a e h = (a, e, rw (a, e))
      by_tests false s a e h =
          let wrong : refusal checks ≡ Done = (rw a at h) in
          absurd (false≢true (sym (ap is_refusal wrong) ∙ refused checks refuse a))

-- 1 to 10 are answered where a check refuses
pub refusal_only : (checks : List Check) (stopped : Bool) (page new : Page) → is_refusal (outcome checks stopped page new).answer ≡ true
    → (accepted checks ≡ false) × ((outcome checks stopped page new).page ≡ page)
refusal_only checks stopped page new h = by_tests (accepted checks) stopped refl refl h
  where
    by_tests : (ok s : Bool) → accepted checks ≡ ok → stopped ≡ s → is_refusal (outcome checks stopped page new).answer ≡ true
        → (accepted checks ≡ false) × ((outcome checks stopped page new).page ≡ page)
    by_tests true true a e h = absurd (false≢true (rw (a, e) at h))
    by_tests true false a e h = absurd (false≢true (rw (a, e) at h))
    by_tests false s a e h = (a, rw a)

-- ---- a call does the first m of its units: n of them, or all where it takes no n

pub record Told (call : Call) (image : List ℕ) (page : Page) (n : ℕ) : Type 0 where
  pub count : ℕ
  pub count_is : (count ≡ n) ⊎ (count ≡ length (plan_of call image page))
  pub outcome_is : outcome_of call image page n ≡ outcome (checks_of call image page) (stops count (plan_of call image page)) page (new_of call page)
  pub image_is : image_of call image page n ≡ image_after (checks_of call image page) (take count (plan_of call image page)) image

-- a call that puts an item does n
pub told_put : (new : PutRequest) (image : List ℕ) (page : Page) (n : ℕ)
    → (outcome_of (putting new) image page n ≡ outcome (checks_of (putting new) image page) (stops n (plan_of (putting new) image page)) page (new_of (putting new) page))
    × (image_of (putting new) image page n ≡ image_after (checks_of (putting new) image page) (take n (plan_of (putting new) image page)) image)
unfolding append_single append_single_image append_variable append_variable_image copy_in copy_in_image
told_put (single item) image page n = (refl, refl)
told_put (variable item payload) image page n = (refl, refl)
told_put (copied source i) image page n = (refl, refl)

-- one that takes no n does all
told_all : (call : Call) (image : List ℕ) (page : Page) (n : ℕ)
    → outcome_of call image page n ≡ outcome (checks_of call image page) false page (new_of call page)
    → image_of call image page n ≡ image_after (checks_of call image page) (plan_of call image page) image → Told call image page n
told_all call image page n outcome_is image_is =
    let plan = plan_of call image page in
    let checks = checks_of call image page in
    record {
      count = length plan;
      count_is = inr refl;
      outcome_is = outcome_is ∙ ap (λ (s : Bool). outcome checks s page (new_of call page)) (sym (le-ltb (length plan) (length plan) (omega arith)));
      image_is = image_is ∙ ap (λ (us : List Unit4). image_after checks us image) (sym (take-length plan));
    }

pub told : (call : Call) (image : List ℕ) (page : Page) (n : ℕ) → Told call image page n
unfolding initialise initialise_image mark_full mark_full_image erase erase_image purge_namespace purge_namespace_image
told (initialising sequence) image page n = record { count = n; count_is = inl refl; outcome_is = refl; image_is = refl }
told marking_full image page n = told_all marking_full image page n refl refl
told (putting new) image page n = let put = told_put new image page n in record { count = n; count_is = inl refl; outcome_is = put.0; image_is = put.1 }
told (erasing index span) image page n = told_all (erasing index span) image page n refl refl
told (purging namespace) image page n = told_all (purging namespace) image page n refl refl
