-- The promises of the writing calls are proved: a call is its checks, the first of its units, and its new record, whichever call it is.
--
-- In order as in specs/Promises.antt.
use Rattle.std.specs.Prelude.{Err}
use mathlib.Core.Path.{◌≡◌, refl, sym, ap, ◌∙◌, subst}
use mathlib.Core.Bool.{Bool, true, false, not, cond, false≢true, and-eq-true_iff}
use mathlib.Core.List.{List, [], ◌∷◌, ◌++◌}
use mathlib.Core.Logic.{◌⊎◌, inl, inr}
use Prim.Native.Nat.{ℕ, zero, suc, ◌+◌, ◌≤◌, ◌<◌}
use native.Mathlib.Omega.{arith}
use lib.Bits.{bit_and}
use lib.Dec.{eqb, ltb}
use lib.ListN.{length, take, get_or}
use lib.Seq.{take_all}
use borrow.Author.Tests.{ltb-true, ltb-false, lt-ltb, le-ltb, not-true}
use Rattle.flash.specs.Flash.{Unit4, run, every, OnlyClears, clears_nil, clears_cons}
use Rattle.flash.proofs.Laws.{clears_refl, clears_run, length_run, Outside, outside_take}
use Rattle.page.specs.Record.{Page, free}
use Rattle.page.specs.Writing.{Outcome, bad_image, over_free, answered, outcome, image_after, stops}
use Rattle.sector.specs.declared.Refusal.TheVariants.{BadImage, ValueTooLong, PageFull, Stopped}
use Rattle.sector.specs.Answers.{Answer, number_of, Check, refusal, accepted}
use Rattle.sector.specs.Layout.{entry_at, span_of}
use Rattle.sector.proofs.Laws.{accepted_append, refusal_append}
use Rattle.call_page_state.specs.Calls.{initialise_checks, initialise_plan, initialised, initialise}
use Rattle.call_append.specs.Append.{single_plan, with_single, span_for, variable_plan, with_variable, append_single, append_variable}
use Rattle.call_copy.specs.Copy.{copy_plan, with_copy, copy_in}
use Rattle.call_purge.specs.Purge.{purge_plan, purge, purge_image}
use Rattle.theorem_writing.specs.Promises.{single, variable, copied, initialising, marking_full, putting, erasing, purging, checks_of, plan_of, new_of, PlainFromTotal, StoppedLeavesFirst, StopsBelowTotal, is_refusal, RefusedChangesNothing, RefusedPurgesNothing, earlier_checks, PageFullExactly, SetsNoBit, OnlyClearsBits, PurgeOnlyClearsBits, writes_of, AltersNothingElse}
use Rattle.theorem_writing.proofs.Order.{writes_in_order, outside_units_of, get_d_after}
use Rattle.theorem_writing.proofs.Answers.{checks_refuse, copied_span, stopped_only, refusal_only, told_put, told}

-- ---- the total

pub plain_from_total : PlainFromTotal
plain_from_total call image page n h =
    let plan = plan_of call image page in
    let checks = checks_of call image page in
    let t = told call image page n in
    let reached : length plan ≤ t.count = by_count t.count (length plan) t.count_is h in (
      t.outcome_is ∙ ap (λ (s : Bool). outcome checks s page (new_of call page)) (le-ltb t.count (length plan) reached),
      t.image_is ∙ ap (λ (us : List Unit4). image_after checks us image) (take_all t.count plan reached),
    )
  where
    by_count : (count total : ℕ) → (count ≡ n) ⊎ (count ≡ total) → total ≤ n → total ≤ count
    by_count count total (inl e) h = omega arith
    by_count count total (inr e) h = omega arith

-- ---- 11, and 1 to 10

pub stopped_leaves_first : StoppedLeavesFirst
stopped_leaves_first call image page n h =
    let plan = plan_of call image page in
    let t = told call image page n in
    let s = stops t.count plan in
    let facts = stopped_only (checks_of call image page) (checks_refuse call image page) s page (new_of call page)
    (sym (ap (λ (o : Outcome). o.answer) t.outcome_is) ∙ h) in
    let below : t.count < length plan = ltb-true t.count (length plan) facts.1 in
    let at : t.count ≡ n = by_count t.count (length plan) t.count_is below in (
      omega arith,
      t.image_is ∙ ap (λ (ok : Bool). cond ok (run (take t.count plan) image) image) facts.0 ∙ ap (λ (m : ℕ). run (take m plan) image) at,
      ap (λ (o : Outcome). o.page) t.outcome_is ∙ facts.2,
    )
  where
    by_count : (count total : ℕ) → (count ≡ n) ⊎ (count ≡ total) → count < total → count ≡ n
    by_count count total (inl e) b = e
    by_count count total (inr e) b = absurd (omega arith)

below_total : (checks : List Check) (plan : List Unit4) (page new : Page) (n : ℕ) → accepted checks ≡ true → n < length plan
    → outcome checks (stops n plan) page new ≡ answered (Err Stopped) page
below_total checks plan page new n a h = rw (a, lt-ltb n (length plan) h)

pub stops_below_total : StopsBelowTotal
unfolding initialise
stops_below_total (initialising sequence) image page n t a h =
    below_total (initialise_checks image page) (initialise_plan sequence) page (initialised page sequence) n a h
stops_below_total marking_full image page n t a h = absurd (false≢true t)
stops_below_total (putting new) image page n t a h =
    (told_put new image page n).0 ∙ below_total (checks_of (putting new) image page) (plan_of (putting new) image page) page (new_of (putting new) page) n a h
stops_below_total (erasing index span) image page n t a h = absurd (false≢true t)
stops_below_total (purging namespace) image page n t a h = absurd (false≢true t)

pub refused_changes_nothing : RefusedChangesNothing
refused_changes_nothing call image page n h =
    let plan = plan_of call image page in
    let t = told call image page n in
    let facts = refusal_only (checks_of call image page) (stops t.count plan) page (new_of call page)
    (sym (ap (λ (o : Outcome). is_refusal o.answer) t.outcome_is) ∙ h) in (
      t.image_is ∙ ap (λ (ok : Bool). cond ok (run (take t.count plan) image) image) facts.0,
      ap (λ (o : Outcome). o.page) t.outcome_is ∙ facts.1,
    )

whole_refused : (wrong : Bool) (plan : List Unit4) (image : List ℕ) → is_refusal (refusal ((wrong, BadImage) ∷ [])) ≡ true
    → image_after ((wrong, BadImage) ∷ []) plan image ≡ image
whole_refused true plan image h = refl
whole_refused false plan image h = absurd (false≢true h)

pub refused_purges_nothing : RefusedPurgesNothing
unfolding purge purge_image
refused_purges_nothing image index span h = whole_refused (bad_image image).0 (purge_plan index span) image h

-- ---- PageFull

abbrev is_page_full : Answer → Bool
is_page_full answer = eqb (number_of answer) 6

-- no check of these answers PageFull
abbrev answers_other : Check → Bool
answers_other check = not (is_page_full (Err check.1))

refusal_other : (checks : List Check) → every answers_other checks ≡ true → is_page_full (refusal checks) ≡ false
refusal_other [] h = refl
refusal_other ((true, answer) ∷ checks) h =
    not-true (is_page_full (Err answer)) ((and-eq-true_iff (not (is_page_full (Err answer))) (every answers_other checks)).0 h).0
refusal_other ((false, answer) ∷ checks) h = refusal_other checks ((and-eq-true_iff (not (is_page_full (Err answer))) (every answers_other checks)).0 h).1

module _ (earlier behind : List Check) (others : every answers_other earlier ≡ true) (stopped : Bool) (page new : Page) where
  -- PageFull comes of the later checks
  full_of_behind : (outcome (earlier ++ behind) stopped page new).answer ≡ Err PageFull → (accepted earlier ≡ true) × (refusal behind ≡ Err PageFull)
  full_of_behind h = by_tests (accepted (earlier ++ behind)) stopped (accepted earlier) refl refl refl h
    where
      by_tests : (ok s first : Bool) → accepted (earlier ++ behind) ≡ ok → stopped ≡ s → accepted earlier ≡ first
          → (outcome (earlier ++ behind) stopped page new).answer ≡ Err PageFull → (accepted earlier ≡ true) × (refusal behind ≡ Err PageFull)
      by_tests true true first a e f h = absurd (false≢true (ap is_page_full (rw (a, e) at h)))
      by_tests true false first a e f h = absurd (false≢true (ap is_page_full (rw (a, e) at h)))
      by_tests false s true a e f h = (f, rw (a, refusal_append earlier behind, f) at h)
      by_tests false s false a e f h =
          let wrong : refusal earlier ≡ Err PageFull = (rw (a, refusal_append earlier behind, f) at h) in
          absurd (false≢true (sym (refusal_other earlier others) ∙ ap is_page_full wrong))

  -- and is answered where those in front accept
  behind_full : accepted earlier ≡ true → accepted behind ≡ false → refusal behind ≡ Err PageFull → (outcome (earlier ++ behind) stopped page new).answer ≡ Err PageFull
  behind_full a f h = rw (accepted_append earlier behind, a, f, refusal_append earlier behind, a) h

room_full : (over : Bool) → refusal ((over, PageFull) ∷ []) ≡ Err PageFull → over ≡ true
room_full true h = refl
room_full false h = absurd (false≢true (ap is_page_full h))

length_full : (long over : Bool) → refusal ((long, ValueTooLong) ∷ (over, PageFull) ∷ []) ≡ Err PageFull → (long ≡ false) × (over ≡ true)
length_full true over h = absurd (false≢true (ap is_page_full h))
length_full false over h = (refl, room_full over h)

-- of a call whose span is on the page where its earlier checks accept
room_exactly : (earlier : List Check) → every answers_other earlier ≡ true → (stopped : Bool) (page new : Page) (span : ℕ) → (accepted earlier ≡ true → span ≤ 126)
    → let answer = (outcome (earlier ++ (over_free page span ∷ [])) stopped page new).answer in
    (answer ≡ Err PageFull → (accepted earlier ≡ true) × (span ≤ 126) × (free page < span))
    × (accepted earlier ≡ true → span ≤ 126 → free page < span → answer ≡ Err PageFull)
room_exactly earlier others stopped page new span fits = (
  (λ h.
      let f = full_of_behind earlier (over_free page span ∷ []) others stopped page new h in
      (f.0, fits f.0, ltb-true (free page) span (room_full (over_free page span).0 f.1))),
  (λ a s o. behind_full earlier (over_free page span ∷ []) others stopped page new a (rw (lt-ltb (free page) span o)) (rw (lt-ltb (free page) span o))),
)

pub page_full_exactly : PageFullExactly
unfolding append_single append_variable copy_in
page_full_exactly (single item) image page n =
    room_exactly (earlier_checks (single item) image page) refl (stops n (single_plan page item)) page (with_single page item) 1 (λ a. omega arith)
page_full_exactly (variable item payload) image page n =
    let span = span_for (length payload) in
    let earlier = earlier_checks (variable item payload) image page in
    let behind : List Check = (ltb 126 span, ValueTooLong) ∷ over_free page span ∷ [] in
    let stopped = stops n (variable_plan page item payload) in
    let new = with_variable page item payload in (
      (λ h.
          let f = full_of_behind earlier behind refl stopped page new h in
          let tests = length_full (ltb 126 span) (over_free page span).0 f.1 in
          (f.0, ltb-false 126 span tests.0, ltb-true (free page) span tests.1)),
      (λ a s o.
          behind_full earlier behind refl stopped page new a
          (rw (le-ltb 126 span s, lt-ltb (free page) span o)) (rw (le-ltb 126 span s, lt-ltb (free page) span o))),
    )
page_full_exactly (copied source i) image page n =
    room_exactly (earlier_checks (copied source i) image page) refl (stops n (copy_plan page source i)) page (with_copy page source i) (span_of (entry_at source i))
    (λ a. let room : i + span_of (entry_at source i) ≤ 126 = (copied_span source i image page a).1 in omega arith)

-- ---- cleared bits

clears_bits : {before after : List ℕ} → OnlyClears before after → (i : ℕ) → bit_and (get_or before i 0) (get_or after i 0) ≡ get_or after i 0
clears_bits clears_nil i = refl
clears_bits (clears_cons e c) zero = e
clears_bits (clears_cons e c) (suc i) = clears_bits c i

pub after_clears : (ok : Bool) (plan : List Unit4) (image : List ℕ) → SetsNoBit image (cond ok (run plan image) image)
after_clears true plan image = (length_run plan image, clears_bits (clears_run plan image))
after_clears false plan image = (refl, clears_bits (clears_refl image))

pub only_clears_bits : OnlyClearsBits
only_clears_bits call image page n =
    let t = told call image page n in
    subst (SetsNoBit image) (sym t.image_is) (after_clears (accepted (checks_of call image page)) (take t.count (plan_of call image page)) image)

pub purge_only_clears_bits : PurgeOnlyClearsBits
unfolding purge_image
purge_only_clears_bits image index span = after_clears (accepted (bad_image image ∷ [])) (purge_plan index span) image

-- ---- the bytes that are reached

pub alters_nothing_else : AltersNothingElse
alters_nothing_else call image page n f i away =
    let t = told call image page n in
    let plan = plan_of call image page in
    let writes = writes_in_order call image page f in
    let unreached : Outside i (i + 1) plan = subst (Outside i (i + 1)) writes.0 (outside_units_of i (writes_of call image page) writes.1 away) in
    ap (λ (after : List ℕ). get_or after i 0) t.image_is
    ∙ get_d_after i (accepted (checks_of call image page)) (take t.count plan) image (outside_take t.count unreached)
