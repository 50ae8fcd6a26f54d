-- What opening leaves: a closed front, and after it the free tail.
--
-- In order: front and tail; opening leaves them; the free tail is Empty and all 0xFF; an opened page; its counts.
use mathlib.Core.Path.{◌≡◌, refl, sym, ap, ap₂, ◌∙◌}
use mathlib.Core.Bool.{Bool, true, false, ◌&&◌, cond, and-eq-true_iff}
use mathlib.Core.List.{List, [], ◌∷◌, ◌++◌}
use Prim.Native.Nat.{ℕ, zero, suc, ◌+◌}
use native.Mathlib.Nat.{suc_inj, suc-ne-zero}
use native.Mathlib.Omega.{arith}
use lib.ListN.{length, replicate, length-append}
use Rattle.flash.specs.Flash.{every, all_ones}
use Rattle.sector.specs.declared.EntryMapState.{EntryMapState}
use Rattle.sector.specs.declared.EntryMapState.TheVariants.{Empty, Written, Erased, Illegal}
use Rattle.sector.specs.Map.{same_state, count_in}
use Rattle.opening_reading.specs.Reading.{walk, kept_from, is_empty, is_free_tail, shut, shut_before_tail, opened_states}
use Rattle.opening_reading.proofs.Verdicts.{States, Entries, Whole, whole_front, verdict_refused_item, verdict_kept_item}
use Rattle.theorem_reopening.proofs.Course.{Course, ends, meets_empty, meets_erased, meets_illegal, refuses_entry, refuses_item, keeps_item, erases_behind, keeps_behind, goes_further, course}
use Rattle.opening_reading.proofs.Midway.{walk_zero}
use Rattle.theorem_reopening.proofs.Reopened.{opened_from, again, length-opened_states}
use Rattle.theorem_reopening.proofs.Closed.{Closed, closed_nil, closed_erased, closed_header, closed_covered, closed_fits, length_closed}
use Rattle.theorem_reopening.proofs.Cuts.{kept_unmarked}

-- ---- front and tail

-- k covered entries and a closed front, then the free tail
record FrontAndTail (k : ℕ) (states : States) (entries : Entries) : Type 0 where
  front : States
  tail : States
  bytes : Entries
  blanks : Entries
  states_split : states ≡ front ++ tail
  entries_split : entries ≡ bytes ++ blanks
  closed : Closed k front bytes
  free : is_free_tail tail blanks ≡ true

only_tail : {states : States} {entries : Entries} → is_free_tail states entries ≡ true → FrontAndTail zero states entries
only_tail {states} {entries} e =
    record {
      front = [];
      tail = states;
      bytes = [];
      blanks = entries;
      states_split = refl;
      entries_split = refl;
      closed = closed_nil;
      free = e;
    }

one_more : {j k : ℕ} {states : States} {entries : Entries} (s : EntryMapState) (entry : List ℕ) (f : FrontAndTail k states entries)
    → Closed j (s ∷ f.front) (entry ∷ f.bytes) → FrontAndTail j (s ∷ states) (entry ∷ entries)
one_more s entry f c =
    record {
      front = s ∷ f.front;
      tail = f.tail;
      bytes = entry ∷ f.bytes;
      blanks = f.blanks;
      states_split = ap (λ (states : States). s ∷ states) f.states_split;
      entries_split = ap (λ (entries : Entries). entry ∷ entries) f.entries_split;
      closed = c;
      free = f.free;
    }

-- ---- opening leaves them

is_empty_shut : (s : EntryMapState) → is_empty (shut s) ≡ false
is_empty_shut Empty = refl
is_empty_shut Written = refl
is_empty_shut Erased = refl
is_empty_shut Illegal = refl

is_free_tail-shut_before_tail : (states : States) (entries : Entries) → is_free_tail (shut_before_tail states entries) entries ≡ is_free_tail states entries
is_free_tail-shut_before_tail [] entries = refl
is_free_tail-shut_before_tail (s ∷ states) [] = refl
is_free_tail-shut_before_tail (s ∷ states) (entry ∷ entries) = by (is_free_tail-shut_before_tail states entries) (is_free_tail (s ∷ states) (entry ∷ entries)) refl
  where
    by : is_free_tail (shut_before_tail states entries) entries ≡ is_free_tail states entries → (free : Bool) → is_free_tail (s ∷ states) (entry ∷ entries) ≡ free
        → is_free_tail (cond free s (shut s) ∷ shut_before_tail states entries) (entry ∷ entries) ≡ is_free_tail (s ∷ states) (entry ∷ entries)
    by h true e = rw h
    by h false e = rw (e, is_empty_shut)

front_empty : (states : States) (entry : List ℕ) (entries : Entries) → FrontAndTail zero (opened_from zero Erased states entries) entries
    → (free : Bool) → (all_ones entry && is_free_tail (walk zero Erased states entries) entries) ≡ free
    → FrontAndTail zero (cond free Empty Erased ∷ opened_from zero Erased states entries) (entry ∷ entries)
front_empty states entry entries f true e = only_tail (rw (is_free_tail-shut_before_tail (walk zero Erased states entries) entries, e))
front_empty states entry entries f false e = one_more Erased entry f (closed_erased entry f.closed)

front_erased : {states : States} {entries : Entries} (entry : List ℕ) → FrontAndTail zero states entries → FrontAndTail zero (Erased ∷ states) (entry ∷ entries)
front_erased entry f = one_more Erased entry f (closed_erased entry f.closed)

front_kept : {k : ℕ} {states : States} {entries : Entries} (entry : List ℕ) → Whole entry k entries → FrontAndTail k states entries
    → FrontAndTail zero (Written ∷ states) (entry ∷ entries)
front_kept entry w f =
    one_more Written entry f (closed_header entry (whole_front f.bytes f.blanks (closed_fits f.closed) (rw f.entries_split at w)) f.closed)

front_course : {k : ℕ} {mark : EntryMapState} {states : States} {entries : Entries} → Course k mark states entries
    → FrontAndTail (again mark k) (opened_from k mark states entries) entries
front_course ends = only_tail refl
front_course (meets_empty {states} {entries} entry c) =
    front_empty states entry entries (front_course c) (all_ones entry && is_free_tail (walk zero Erased states entries) entries) refl
front_course (meets_erased entry c) = front_erased entry (front_course c)
front_course (meets_illegal entry c) = front_erased entry (front_course c)
front_course (refuses_entry entry e c) = rw e (front_erased entry (front_course c))
front_course (refuses_item entry s c) = rw (verdict_refused_item s) (front_erased entry (front_course c))
front_course (keeps_item entry g c) = rw (verdict_kept_item g) (front_kept entry g.whole (front_course c))
front_course (erases_behind s entry c) = front_erased entry (front_course c)
front_course (keeps_behind s entry u c) = let f = front_course c in one_more Written entry f (closed_covered entry f.closed)
front_course (goes_further {states} {entries} c) = rw (walk_zero Written Erased states entries) (front_course c)

front_opened_states : (states : States) (entries : Entries) → length states ≡ length entries → FrontAndTail zero (opened_states states entries) entries
unfolding opened_states
front_opened_states states entries l = front_course (course states entries l)

-- ---- the free tail

is_empty-true : (s : EntryMapState) → is_empty s ≡ true → s ≡ Empty
is_empty-true Empty e = refl
is_empty-true Written e = cc
is_empty-true Erased e = cc
is_empty-true Illegal e = cc

-- all of it is Empty and all 0xFF
free_tail : (tail : States) (blanks : Entries) → length tail ≡ length blanks → is_free_tail tail blanks ≡ true
    → (tail ≡ replicate (length blanks) Empty) × (every all_ones blanks ≡ true)
free_tail [] [] l e = (refl, refl)
free_tail [] (entry ∷ blanks) l e = absurd (suc-ne-zero (length blanks) (sym l))
free_tail (s ∷ tail) [] l e = absurd (suc-ne-zero (length tail) l)
free_tail (s ∷ tail) (entry ∷ blanks) l e =
    let first = (and-eq-true_iff (is_empty s) (all_ones entry && is_free_tail tail blanks)).0 e in
    let second = (and-eq-true_iff (all_ones entry) (is_free_tail tail blanks)).0 first.1 in
    let rest = free_tail tail blanks (suc_inj l) second.1 in
    (ap₂ (λ (t : EntryMapState) (states : States). t ∷ states) (is_empty-true s first.0) rest.0, rw second.0 rest.1)

-- ---- an opened page

-- a closed front, then entries that are Empty and all 0xFF
pub record Opened (states : States) (entries : Entries) : Type 0 where
  pub front : States
  pub bytes : Entries
  pub blanks : Entries
  pub states_split : states ≡ front ++ replicate (length blanks) Empty
  pub entries_split : entries ≡ bytes ++ blanks
  pub closed : Closed zero front bytes
  pub blank : every all_ones blanks ≡ true

opened_front : {states : States} {entries : Entries} → length states ≡ length entries → FrontAndTail zero states entries → Opened states entries
opened_front l f =
    let states_long = ap length f.states_split ∙ length-append f.front f.tail in
    let entries_long = ap length f.entries_split ∙ length-append f.bytes f.blanks in
    let rest = free_tail f.tail f.blanks (omega (arith, length_closed f.closed)) f.free in
    record {
      front = f.front;
      bytes = f.bytes;
      blanks = f.blanks;
      states_split = f.states_split ∙ ap (λ (tail : States). f.front ++ tail) rest.0;
      entries_split = f.entries_split;
      closed = f.closed;
      blank = rest.1;
    }

-- what opening leaves
pub opened : (states : States) (entries : Entries) → length states ≡ length entries → Opened (opened_states states entries) entries
opened states entries l = opened_front (length-opened_states states entries ∙ l) (front_opened_states states entries l)

-- what is kept are the items of its front
pub kept_opened : {states : States} {entries : Entries} (o : Opened states entries)
    → kept_from zero zero states entries ≡ kept_from zero zero o.front o.bytes
kept_opened o = rw (o.states_split, o.entries_split) (kept_unmarked o.closed (length o.blanks) o.blanks)

-- ---- the counts

-- in a closed front each entry is Written or Erased
pub count_closed : {k : ℕ} {front : States} {bytes : Entries} → Closed k front bytes → count_in Written front + count_in Erased front ≡ length front
unfolding count_in
count_closed closed_nil = refl
count_closed (closed_erased entry c) = let rest = count_closed c in omega arith
count_closed (closed_header entry w c) = let rest = count_closed c in omega arith
count_closed (closed_covered entry c) = let rest = count_closed c in omega arith

pub count_none : (s t : EntryMapState) (n : ℕ) → same_state s t ≡ false → count_in s (replicate n t) ≡ 0
unfolding count_in
count_none s t zero e = refl
count_none s t (suc n) e = rw (e, count_none s t n e)
