-- Opening cut anywhere and opened again gives what one whole opening gives.
--
-- In order: what the two passes make of each entry; a refused item stays refused; a cut in the first pass, and one in the second; each pass changes
-- a state by at most one bit; the cut anywhere. What a cut leaves of a pass is a mix of the states before and after it (Mixed).
use mathlib.Core.Path.{◌≡◌, refl, ap₂}
use mathlib.Core.Bool.{Bool, true, false, ◌&&◌, not, cond, false≢true, and-eq-true_iff}
use mathlib.Core.List.{List, [], ◌∷◌}
use Rattle.std.specs.Prelude.{Option, Some, None}
use Prim.Native.Nat.{ℕ, zero, suc}
use lib.ListN.{length, take}
use Rattle.flash.specs.Flash.{all_ones}
use Rattle.sector.specs.declared.EntryMapState.{EntryMapState}
use Rattle.sector.specs.declared.EntryMapState.TheVariants.{Empty, Written, Erased, Illegal}
use Rattle.sector.specs.Map.{same_state}
use Rattle.opening_reading.specs.declared.Reason.{Reason}
use Rattle.opening_reading.specs.declared.Verdict.TheVariants.{RefusedItem}
use Rattle.opening_reading.specs.Reading.{header_refusal, payload_refusal, is_usable, usable, item_verdict, walk, kept_from, is_free_tail, opened_states}
use Rattle.opening_marks.specs.Marks.{upper_cleared, first_pass}
use Rattle.opening.specs.Opening.{refused_headers}
use Rattle.opening_reading.proofs.Verdicts.{States, Entries, Good, Spoiled, verdict_refused_item, verdict_kept_item}
use Rattle.theorem_reopening.proofs.Course.{Course, course}
use Rattle.theorem_reopening.proofs.Mixed.{one_of_same, the_old, the_new, Mix, mix_nil, mix_cons, Step, stays, writes, spoils, erases, shuts, Steps, steps_nil, steps_cons}
use Rattle.opening_reading.proofs.Midway.{Gone, is_erased, is_illegal, AllGone, gone_zero, gone_suc, Midway, midway_gone, walk_zero, midway_alike, midway_kept}
use Rattle.theorem_reopening.proofs.Reopened.{opened_from}

-- ---- the two passes

-- what the passes make of each entry: the states before, after the first pass, and after the second
data Passes : ℕ → EntryMapState → States → States → States → Entries → Type 0 where
  ends : Passes zero Erased [] [] [] []
  stays_empty : {old first new : States} {entries : Entries} (entry : List ℕ) → Passes zero Erased old first new entries
      → Passes zero Erased (Empty ∷ old) (Empty ∷ first) (Empty ∷ new) (entry ∷ entries)
  shuts_empty : {old first new : States} {entries : Entries} (entry : List ℕ)
      → (all_ones entry && is_free_tail (walk zero Erased old entries) entries) ≡ false → Passes zero Erased old first new entries
      → Passes zero Erased (Empty ∷ old) (Illegal ∷ first) (Erased ∷ new) (entry ∷ entries)
  stays_erased : {old first new : States} {entries : Entries} (entry : List ℕ) → Passes zero Erased old first new entries
      → Passes zero Erased (Erased ∷ old) (Erased ∷ first) (Erased ∷ new) (entry ∷ entries)
  shuts_illegal : {old first new : States} {entries : Entries} (entry : List ℕ) → Passes zero Erased old first new entries
      → Passes zero Erased (Illegal ∷ old) (Illegal ∷ first) (Erased ∷ new) (entry ∷ entries)
  refuses_entry : {reason : Reason} {old first new : States} {entries : Entries} (entry : List ℕ)
      → header_refusal entry (length entries) ≡ Some reason → Passes zero Erased old first new entries
      → Passes zero Erased (Written ∷ old) (Erased ∷ first) (Erased ∷ new) (entry ∷ entries)
  -- the header of a refused item waits for the second pass
  refuses_item : {reason : Reason} {k : ℕ} {old first new : States} {entries : Entries} (entry : List ℕ)
      → Spoiled reason entry k old entries → Passes k Erased old first new entries
      → Passes zero Erased (Written ∷ old) (Written ∷ first) (Erased ∷ new) (entry ∷ entries)
  keeps_item : {k : ℕ} {old first new : States} {entries : Entries} (entry : List ℕ)
      → Good entry k old entries → Passes k Written old first new entries
      → Passes zero Erased (Written ∷ old) (Written ∷ first) (Written ∷ new) (entry ∷ entries)
  erases_behind : {k : ℕ} {old first new : States} {entries : Entries} (s : EntryMapState) (entry : List ℕ) → Passes k Erased old first new entries
      → Passes (suc k) Erased (s ∷ old) (upper_cleared s ∷ first) (Erased ∷ new) (entry ∷ entries)
  keeps_behind : {k : ℕ} {old first new : States} {entries : Entries} (s : EntryMapState) (entry : List ℕ)
      → is_usable s ≡ true → Passes k Written old first new entries
      → Passes (suc k) Written (s ∷ old) (s ∷ first) (Written ∷ new) (entry ∷ entries)
  goes_further : {old first new : States} {entries : Entries} → Passes zero Erased old first new entries → Passes zero Written old first new entries

-- the states after the first pass, from an entry on
abbrev first_from : ℕ → EntryMapState → States → Entries → States
first_from k mark states entries = first_pass states (opened_from k mark states entries) (refused_headers k states entries)

passes_empty : (states : States) (entry : List ℕ) (entries : Entries)
    → Passes zero Erased states (first_from zero Erased states entries) (opened_from zero Erased states entries) entries
    → (free : Bool) → (all_ones entry && is_free_tail (walk zero Erased states entries) entries) ≡ free
    → Passes zero Erased (Empty ∷ states)
    (cond (same_state (cond free Empty Erased) Erased && true) Illegal Empty ∷ first_from zero Erased states entries)
    (cond free Empty Erased ∷ opened_from zero Erased states entries) (entry ∷ entries)
passes_empty states entry entries p true e = stays_empty entry p
passes_empty states entry entries p false e = shuts_empty entry e p

passes : {k : ℕ} {mark : EntryMapState} {states : States} {entries : Entries} → Course k mark states entries
    → Passes k mark states (first_from k mark states entries) (opened_from k mark states entries) entries
passes Course.ends = ends
passes (Course.meets_empty {states} {entries} entry c) =
    passes_empty states entry entries (passes c) (all_ones entry && is_free_tail (walk zero Erased states entries) entries) refl
passes (Course.meets_erased entry c) = stays_erased entry (passes c)
passes (Course.meets_illegal entry c) = shuts_illegal entry (passes c)
passes (Course.refuses_entry entry e c) = rw e (refuses_entry entry e (passes c))
passes (Course.refuses_item entry s c) = rw (verdict_refused_item s) (refuses_item entry s (passes c))
passes (Course.keeps_item entry g c) = rw (verdict_kept_item g) (keeps_item entry g (passes c))
passes (Course.erases_behind s entry c) = erases_behind s entry (passes c)
passes (Course.keeps_behind s entry u c) = keeps_behind s entry u (passes c)
passes (Course.goes_further {states} {entries} c) = rw (walk_zero Written Erased states entries) (goes_further (passes c))

-- ---- a refused item stays refused

spoiled_midway : {reason : Reason} {entry : List ℕ} {k : ℕ} {old mid : States} {entries : Entries} → (usable k mid ≡ true → usable k old ≡ true)
    → Spoiled reason entry k old entries → Spoiled reason entry k mid entries
spoiled_midway {reason} {entry} {k} {old} {mid} {entries} clear s =
    record { header = s.header; span = s.span; refused = by (payload_refusal entry (take k entries)) (usable k old) (usable k mid) clear s.refused }
  where
    by : (payload : Option Reason) (before now : Bool) → (now ≡ true → before ≡ true) → item_verdict payload before k ≡ RefusedItem reason k
        → item_verdict payload now k ≡ RefusedItem reason k
    by (Some other) before now u e = e
    by None true now u e = cc
    by None false true u e = absurd (false≢true (u refl))
    by None false false u e = e

gone_upper_cleared : (s : EntryMapState) → Gone (upper_cleared s)
gone_upper_cleared Empty = is_illegal
gone_upper_cleared Written = is_erased
gone_upper_cleared Erased = is_erased
gone_upper_cleared Illegal = is_illegal

not_usable : {s : EntryMapState} → Gone s → is_usable s ≡ false
not_usable is_erased = refl
not_usable is_illegal = refl

-- ---- a cut in the first pass

-- what was not usable is not usable now
usable_first : {old first new mid : States} {entries : Entries} (k : ℕ) → Passes k Erased old first new entries → Mix old first mid
    → usable k mid ≡ true → usable k old ≡ true
usable_first zero p m u = refl
usable_first (suc k) (erases_behind s entry p) (mix_cons {mid = mid} the_old m) u =
    let parts = (and-eq-true_iff (is_usable s) (usable k mid)).0 u in rw parts.0 (usable_first k p m parts.1)
usable_first (suc k) (erases_behind s entry p) (mix_cons the_new m) u = absurd (false≢true (rw (not_usable (gone_upper_cleared s)) at u))

-- what a kept item covers stays usable
good_first : {k : ℕ} {old first new mid : States} {entries : Entries} → Passes k Written old first new entries → Mix old first mid → usable k mid ≡ true
good_first (keeps_behind s entry u p) (mix_cons x m) = rw (one_of_same x, u) (good_first p m)
good_first (goes_further p) m = refl

first_midway : {k : ℕ} {mark : EntryMapState} {old first new mid : States} {entries : Entries} → Passes k mark old first new entries → Mix old first mid
    → Midway k k mark mid old entries entries
first_midway ends mix_nil = Midway.ends
first_midway (stays_empty entry p) (mix_cons x m) = rw (one_of_same x) (Midway.still_empty entry (first_midway p m))
first_midway (shuts_empty entry e p) (mix_cons the_old m) = Midway.still_empty entry (first_midway p m)
first_midway (shuts_empty entry e p) (mix_cons the_new m) = Midway.shut_empty entry is_illegal e (first_midway p m)
first_midway (stays_erased entry p) (mix_cons x m) = rw (one_of_same x) (Midway.shut_gone entry entry is_erased is_erased (first_midway p m))
first_midway (shuts_illegal entry p) (mix_cons x m) = rw (one_of_same x) (Midway.shut_gone entry entry is_illegal is_illegal (first_midway p m))
first_midway (refuses_entry entry e p) (mix_cons the_old m) = Midway.refuses_entry entry refl e (first_midway p m)
first_midway (refuses_entry entry e p) (mix_cons the_new m) = Midway.erased_entry entry e (first_midway p m)
first_midway (refuses_item {k = k} entry s p) (mix_cons x m) =
    rw (one_of_same x) (Midway.refuses_item entry (spoiled_midway (usable_first k p m) s) s (first_midway p m))
first_midway (keeps_item entry g p) (mix_cons x m) =
    rw (one_of_same x) (Midway.keeps_item entry (record { whole = g.whole; clear = good_first p m }) g refl (first_midway p m))
first_midway (erases_behind s entry p) (mix_cons {m = t} x m) = Midway.erases_behind t s entry entry (first_midway p m)
first_midway (keeps_behind s entry u p) (mix_cons {m = t} x m) = Midway.keeps_behind t s entry (first_midway p m)
first_midway (goes_further p) m = Midway.goes_further (first_midway p m)

-- ---- a cut in the second pass

-- what a refused item steps over is gone by then
gone_second : {old first new mid : States} {entries : Entries} (k : ℕ) → Passes k Erased old first new entries → Mix first new mid → AllGone k mid
gone_second zero p m = gone_zero
gone_second (suc k) (erases_behind s entry p) (mix_cons the_old m) = gone_suc (gone_upper_cleared s) (gone_second k p m)
gone_second (suc k) (erases_behind s entry p) (mix_cons the_new m) = gone_suc is_erased (gone_second k p m)

usable_gone : {k : ℕ} {mid : States} (old : States) → AllGone k mid → usable k mid ≡ true → usable k old ≡ true
usable_gone old gone_zero u = refl
usable_gone old (gone_suc g a) u = absurd (false≢true (rw (not_usable g) at u))

good_second : {k : ℕ} {old first new mid : States} {entries : Entries} → Passes k Written old first new entries → Mix first new mid → usable k mid ≡ true
good_second (keeps_behind s entry u p) (mix_cons the_old m) = rw u (good_second p m)
good_second (keeps_behind s entry u p) (mix_cons the_new m) = good_second p m
good_second (goes_further p) m = refl

second_midway : {k : ℕ} {mark : EntryMapState} {old first new mid : States} {entries : Entries} → Passes k mark old first new entries → Mix first new mid
    → Midway k k mark mid old entries entries
second_midway ends mix_nil = Midway.ends
second_midway (stays_empty entry p) (mix_cons x m) = rw (one_of_same x) (Midway.still_empty entry (second_midway p m))
second_midway (shuts_empty entry e p) (mix_cons the_old m) = Midway.shut_empty entry is_illegal e (second_midway p m)
second_midway (shuts_empty entry e p) (mix_cons the_new m) = Midway.shut_empty entry is_erased e (second_midway p m)
second_midway (stays_erased entry p) (mix_cons x m) = rw (one_of_same x) (Midway.shut_gone entry entry is_erased is_erased (second_midway p m))
second_midway (shuts_illegal entry p) (mix_cons the_old m) = Midway.shut_gone entry entry is_illegal is_illegal (second_midway p m)
second_midway (shuts_illegal entry p) (mix_cons the_new m) = Midway.shut_gone entry entry is_erased is_illegal (second_midway p m)
second_midway (refuses_entry entry e p) (mix_cons x m) = rw (one_of_same x) (Midway.erased_entry entry e (second_midway p m))
second_midway (refuses_item {k = k} {old} entry s p) (mix_cons the_old m) =
    Midway.refuses_item entry (spoiled_midway (usable_gone old (gone_second k p m)) s) s (second_midway p m)
second_midway (refuses_item {k = k} entry s p) (mix_cons the_new m) = Midway.erased_item entry s (midway_gone k (gone_second k p m) (second_midway p m))
second_midway (keeps_item entry g p) (mix_cons x m) =
    rw (one_of_same x) (Midway.keeps_item entry (record { whole = g.whole; clear = good_second p m }) g refl (second_midway p m))
second_midway (erases_behind s entry p) (mix_cons {m = t} x m) = Midway.erases_behind t s entry entry (second_midway p m)
second_midway (keeps_behind s entry u p) (mix_cons {m = t} x m) = Midway.keeps_behind t s entry (second_midway p m)
second_midway (goes_further p) m = Midway.goes_further (second_midway p m)

-- ---- each pass changes a state by at most one bit

step_upper_cleared : (s : EntryMapState) → Step s (upper_cleared s)
step_upper_cleared Empty = spoils
step_upper_cleared Written = erases
step_upper_cleared Erased = stays
step_upper_cleared Illegal = stays

step_gone : {s : EntryMapState} → Gone s → Step s Erased
step_gone is_erased = stays
step_gone is_illegal = shuts

step_written : (s : EntryMapState) → is_usable s ≡ true → Step s Written
step_written Empty u = writes
step_written Written u = stays
step_written Erased u = absurd (false≢true u)
step_written Illegal u = absurd (false≢true u)

-- of the states before to those after the first pass, and of these to those after the second
abbrev BothStep : States → States → States → Type 0
BothStep old first new = Steps old first × Steps first new

both_cons : {s t u : EntryMapState} {old first new : States} → Step s t → Step t u → BothStep old first new → BothStep (s ∷ old) (t ∷ first) (u ∷ new)
both_cons x y b = (steps_cons x b.0, steps_cons y b.1)

both_step : {k : ℕ} {mark : EntryMapState} {old first new : States} {entries : Entries} → Passes k mark old first new entries → BothStep old first new
both_step ends = (steps_nil, steps_nil)
both_step (stays_empty entry p) = both_cons stays stays (both_step p)
both_step (shuts_empty entry e p) = both_cons spoils shuts (both_step p)
both_step (stays_erased entry p) = both_cons stays stays (both_step p)
both_step (shuts_illegal entry p) = both_cons stays shuts (both_step p)
both_step (refuses_entry entry e p) = both_cons erases stays (both_step p)
both_step (refuses_item entry s p) = both_cons stays erases (both_step p)
both_step (keeps_item entry g p) = both_cons stays stays (both_step p)
both_step (erases_behind s entry p) = both_cons (step_upper_cleared s) (step_gone (gone_upper_cleared s)) (both_step p)
both_step (keeps_behind s entry u p) = both_cons stays (step_written s u) (both_step p)
both_step (goes_further p) = both_step p

-- ---- the cut anywhere

-- the states after the first pass
abbrev pub first_states : States → Entries → States
first_states states entries = first_pass states (opened_states states entries) (refused_headers zero states entries)

pub steps_first_pass : (states : States) (entries : Entries) → length states ≡ length entries → Steps states (first_states states entries)
unfolding opened_states
steps_first_pass states entries l = (both_step (passes (course states entries l))).0

pub steps_second_pass : (states : States) (entries : Entries) → length states ≡ length entries
    → Steps (first_states states entries) (opened_states states entries)
unfolding opened_states
steps_second_pass states entries l = (both_step (passes (course states entries l))).1

-- a page that opening leaves as it is, the first pass leaves too
pub first_pass_same : (states : States) (headers : List Bool) → first_pass states states headers ≡ states
first_pass_same [] headers = refl
first_pass_same (s ∷ states) [] = refl
first_pass_same (s ∷ states) (header ∷ headers) = ap₂ (λ (t : EntryMapState) (news : States). t ∷ news) (by s header) (first_pass_same states headers)
  where
    by : (t : EntryMapState) (header : Bool) → cond (same_state t Erased && not header) (upper_cleared t) t ≡ t
    by Empty header = refl
    by Written header = refl
    by Erased true = refl
    by Erased false = refl
    by Illegal header = refl

-- what a cut leaves: some of the first pass, or all of it and some of the second
pub data CutOpening (states mid : States) (entries : Entries) : Type 0 where
  in_first : Mix states (first_states states entries) mid → CutOpening states mid entries
  in_second : Mix (first_states states entries) (opened_states states entries) mid → CutOpening states mid entries

cut_midway : {states mid : States} {entries : Entries} → length states ≡ length entries → CutOpening states mid entries
    → Midway zero zero Erased mid states entries entries
unfolding opened_states
cut_midway {states} {mid} {entries} l (in_first m) = first_midway (passes (course states entries l)) m
cut_midway {states} {mid} {entries} l (in_second m) = second_midway (passes (course states entries l)) m

-- opened again, the states are those of one whole opening
pub opened_states_cut : {states mid : States} {entries : Entries} → length states ≡ length entries → CutOpening states mid entries
    → opened_states mid entries ≡ opened_states states entries
unfolding opened_states
opened_states_cut l c = (midway_alike (cut_midway l c)).left

-- and so are the items
pub kept_from_cut : {states mid : States} {entries : Entries} (i : ℕ) → length states ≡ length entries → CutOpening states mid entries
    → kept_from zero i mid entries ≡ kept_from zero i states entries
kept_from_cut i l c = midway_kept i (cut_midway l c)
