-- A power cut while an item is written after a closed front: as long as all marks after the front are Empty the item is absent, and once its
-- header is marked it is there, whole.
--
-- In order: Empty entries with any bytes, and what opening leaves of blank ones; an item whose covered entries are marked in part; the cut.
-- Nothing here speaks of the units that the marks are programmed in.
use mathlib.Core.Path.{◌≡◌, refl, sym, ap}
use mathlib.Core.Bool.{true, and-eq-true_iff}
use mathlib.Core.List.{List, [], ◌∷◌, ◌++◌, append-nil}
use Prim.Native.Nat.{ℕ, zero, suc, ◌+◌}
use native.Mathlib.Nat.{suc_inj, suc-ne-zero, add-zero, zero-add, add-suc, suc-add}
use lib.ListN.{length, replicate}
use lib.Seq.{take_at}
use Rattle.flash.specs.Flash.{every, all_ones}
use Rattle.sector.specs.declared.EntryMapState.{EntryMapState}
use Rattle.sector.specs.declared.EntryMapState.TheVariants.{Empty, Written, Erased}
use Rattle.opening_reading.specs.Reading.{is_usable, usable, walk, Item, item, kept_from, is_free_tail, shut_before_tail, opened_states}
use Rattle.opening_reading.proofs.Verdicts.{States, Entries, Whole, whole_append, Good, verdict_kept_item}
use Rattle.theorem_reopening.proofs.Closed.{Closed, kept_from_closed, opened_states_closed}

-- ---- Empty entries, whatever their bytes

walk_empties : (n : ℕ) (mark : EntryMapState) (any : Entries) → walk zero mark (replicate n Empty) any ≡ replicate n Empty
walk_empties zero mark any = refl
walk_empties (suc n) mark [] = refl
walk_empties (suc n) mark (entry ∷ any) = ap (λ (states : States). Empty ∷ states) (walk_empties n Erased any)

pub kept_from_empties : (n i : ℕ) (any : Entries) → kept_from zero i (replicate n Empty) any ≡ []
kept_from_empties zero i any = refl
kept_from_empties (suc n) i [] = refl
kept_from_empties (suc n) i (entry ∷ any) = kept_from_empties n (suc i) any

-- ---- what opening leaves of them

-- blank entries stay free
pub is_free_tail_blanks : (blanks : Entries) → every all_ones blanks ≡ true → is_free_tail (replicate (length blanks) Empty) blanks ≡ true
is_free_tail_blanks [] e = refl
is_free_tail_blanks (entry ∷ blanks) e = let parts = (and-eq-true_iff (all_ones entry) (every all_ones blanks)).0 e in rw parts.0 (is_free_tail_blanks blanks parts.1)

shut_before_tail_blanks : (blanks : Entries) → every all_ones blanks ≡ true
    → shut_before_tail (replicate (length blanks) Empty) blanks ≡ replicate (length blanks) Empty
shut_before_tail_blanks [] e = refl
shut_before_tail_blanks (entry ∷ blanks) e =
    let parts = (and-eq-true_iff (all_ones entry) (every all_ones blanks)).0 e in
    rw (parts.0, is_free_tail_blanks blanks parts.1) (ap (λ (states : States). Empty ∷ states) (shut_before_tail_blanks blanks parts.1))

pub opened_states_blanks : (blanks : Entries) → every all_ones blanks ≡ true
    → opened_states (replicate (length blanks) Empty) blanks ≡ replicate (length blanks) Empty
unfolding opened_states
opened_states_blanks blanks e = rw (walk_empties (length blanks) Erased blanks) (shut_before_tail_blanks blanks e)

-- ---- an item whose covered entries are marked in part

usable_mixed : (mixed rest : States) → every is_usable mixed ≡ true → usable (length mixed) (mixed ++ rest) ≡ true
usable_mixed [] rest e = refl
usable_mixed (s ∷ mixed) rest e =
    let parts = (and-eq-true_iff (is_usable s) (every is_usable mixed)).0 e in rw parts.0 (usable_mixed mixed rest parts.1)

kept_from_mixed : (i : ℕ) (mixed rest : States) (new others : Entries) → length mixed ≡ length new
    → kept_from (length new) i (mixed ++ rest) (new ++ others) ≡ kept_from zero (i + length new) rest others
kept_from_mixed i [] rest [] others l = rw add-zero
kept_from_mixed i [] rest (entry ∷ new) others l = absurd (suc-ne-zero (length new) (sym l))
kept_from_mixed i (s ∷ mixed) rest [] others l = absurd (suc-ne-zero (length mixed) l)
kept_from_mixed i (s ∷ mixed) rest (entry ∷ new) others l = rw (add-suc, ← suc-add i (length new)) (kept_from_mixed (suc i) mixed rest new others (suc_inj l))

-- a whole item at a Written header; some of the entries that it covers are Written and some still Empty
pub record Marking (entry : List ℕ) (mixed : States) (new : Entries) : Type 0 where
  pub whole : Whole entry (length new) new
  pub covers : length mixed ≡ length new
  pub started : every is_usable mixed ≡ true

module _ {entry : List ℕ} {mixed : States} {new : Entries} (m : Marking entry mixed new) (rest : States) (others : Entries) where
  good_mixed : Good entry (length new) (mixed ++ rest) (new ++ others)
  good_mixed = record { whole = whole_append others m.whole; clear = rw (← m.covers) (usable_mixed mixed rest m.started) }

  -- it is kept, and what lies after is read by itself
  pub kept_marking : (i : ℕ)
      → kept_from zero i (Written ∷ mixed ++ rest) (entry ∷ new ++ others) ≡ item i (entry ∷ new) ∷ kept_from zero (suc i + length new) rest others
  kept_marking i =
      rw (verdict_kept_item good_mixed, take_at new others (length new) refl)
      (ap (λ (items : List Item). item i (entry ∷ new) ∷ items) (kept_from_mixed (suc i) mixed rest new others m.covers))

-- ---- the cut, after a closed front

module _ {front : States} {bytes : Entries} (c : Closed zero front bytes) where
  -- before the first mark: nothing new is kept, whatever bytes are in
  pub kept_unmarked : (n : ℕ) (any : Entries) → kept_from zero zero (front ++ replicate n Empty) (bytes ++ any) ≡ kept_from zero zero front bytes
  kept_unmarked n any =
      rw (kept_from_closed zero (replicate n Empty) any c, kept_from_empties n (zero + length front) any) (append-nil (kept_from zero zero front bytes))

  -- opening leaves a page that is all free after the front as it is
  pub opened_states_unmarked_blank : (blanks : Entries) → every all_ones blanks ≡ true
      → opened_states (front ++ replicate (length blanks) Empty) (bytes ++ blanks) ≡ front ++ replicate (length blanks) Empty
  opened_states_unmarked_blank blanks e = rw (opened_states_closed (replicate (length blanks) Empty) blanks c, opened_states_blanks blanks e)

  module _ {mixed : States} {entry : List ℕ} {new : Entries} (m : Marking entry mixed new) where
    -- from the header's mark on: the items of the front, and the new one, whole
    pub kept_marked : (n : ℕ) (any : Entries)
        → kept_from zero zero (front ++ (Written ∷ mixed ++ replicate n Empty)) (bytes ++ (entry ∷ new ++ any))
        ≡ kept_from zero zero front bytes ++ (item (length front) (entry ∷ new) ∷ [])
    kept_marked n any =
        rw (
          kept_from_closed zero (Written ∷ mixed ++ replicate n Empty) (entry ∷ new ++ any) c,
          zero-add,
          kept_marking m (replicate n Empty) any (length front),
          kept_from_empties n (suc (length front) + length new) any,
        )
