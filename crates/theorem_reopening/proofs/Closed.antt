-- A closed front of a page: whole items and Erased entries, and nothing else. The reading keeps it as it is, and reads what lies after it by itself.
--
-- In order: the front; its items are good, whatever lies after; fronts joined; walk, items and opened states over a front and a rest.
use mathlib.Core.Path.{◌≡◌, refl, sym, ap, ◌∙◌}
use mathlib.Core.Bool.{true}
use mathlib.Core.List.{List, [], ◌∷◌, ◌++◌, append-nil}
use Prim.Native.Nat.{ℕ, zero, suc, ◌≤◌, ◌+◌, zero-le, suc-le-suc}
use native.Mathlib.Nat.{suc_inj, suc-ne-zero, add-zero, add-suc, suc-add}
use lib.ListN.{length, take, replicate}
use lib.Seq.{take-append-le}
use Rattle.sector.specs.declared.EntryMapState.TheVariants.{Written, Erased}
use Rattle.opening_reading.specs.Reading.{usable, walk, Item, item, kept_from, shut_before_tail, opened_states}
use Rattle.opening_reading.proofs.Verdicts.{States, Entries, Whole, whole_fits, whole_append, Good, verdict_kept_item}
use Rattle.opening_reading.proofs.Midway.{walk_zero}

-- k covered entries, then whole items and Erased entries
pub data Closed : ℕ → States → Entries → Type 0 where
  closed_nil : Closed zero [] []
  closed_erased : {states : States} {entries : Entries} (entry : List ℕ) → Closed zero states entries
      → Closed zero (Erased ∷ states) (entry ∷ entries)
  closed_header : {k : ℕ} {states : States} {entries : Entries} (entry : List ℕ) → Whole entry k entries → Closed k states entries
      → Closed zero (Written ∷ states) (entry ∷ entries)
  closed_covered : {k : ℕ} {states : States} {entries : Entries} (entry : List ℕ) → Closed k states entries
      → Closed (suc k) (Written ∷ states) (entry ∷ entries)

pub length_closed : {k : ℕ} {front : States} {bytes : Entries} → Closed k front bytes → length front ≡ length bytes
length_closed closed_nil = refl
length_closed (closed_erased entry c) = ap suc (length_closed c)
length_closed (closed_header entry w c) = ap suc (length_closed c)
length_closed (closed_covered entry c) = ap suc (length_closed c)

pub closed_fits : {k : ℕ} {front : States} {bytes : Entries} → Closed k front bytes → k ≤ length bytes
closed_fits closed_nil = zero-le
closed_fits (closed_erased entry c) = zero-le
closed_fits (closed_header entry w c) = zero-le
closed_fits (closed_covered entry c) = suc-le-suc (closed_fits c)

-- ---- its items are good

pub usable_closed : {k : ℕ} {front : States} {bytes : Entries} (rest : States) → Closed k front bytes → usable k (front ++ rest) ≡ true
usable_closed rest closed_nil = refl
usable_closed rest (closed_erased entry c) = refl
usable_closed rest (closed_header entry w c) = refl
usable_closed rest (closed_covered entry c) = usable_closed rest c

pub good_closed : {k : ℕ} {entry : List ℕ} {front : States} {bytes : Entries} → Whole entry k bytes → Closed k front bytes → Good entry k front bytes
good_closed {front = front} w c = record { whole = w; clear = rw append-nil at (usable_closed [] c) }

-- whatever lies after
pub good_closed_append : {k : ℕ} {entry : List ℕ} {front : States} {bytes : Entries} (rest : States) (others : Entries)
    → Whole entry k bytes → Closed k front bytes → Good entry k (front ++ rest) (bytes ++ others)
good_closed_append rest others w c = record { whole = whole_append others w; clear = usable_closed rest c }

-- ---- fronts joined

pub closed_append : {k : ℕ} {front rest : States} {bytes others : Entries} → Closed k front bytes → Closed zero rest others → Closed k (front ++ rest) (bytes ++ others)
closed_append closed_nil d = d
closed_append (closed_erased entry c) d = closed_erased entry (closed_append c d)
closed_append {others = others} (closed_header entry w c) d = closed_header entry (whole_append others w) (closed_append c d)
closed_append (closed_covered entry c) d = closed_covered entry (closed_append c d)

-- the marks of a new item, over its bytes
closed_marked : (k : ℕ) (new : Entries) → length new ≡ k → Closed k (replicate k Written) new
closed_marked zero [] l = closed_nil
closed_marked zero (entry ∷ new) l = absurd (suc-ne-zero (length new) l)
closed_marked (suc k) [] l = absurd (suc-ne-zero k (sym l))
closed_marked (suc k) (entry ∷ new) l = closed_covered entry (closed_marked k new (suc_inj l))

pub closed_item : {entry : List ℕ} {new : Entries} → Whole entry (length new) new → Closed zero (replicate (suc (length new)) Written) (entry ∷ new)
closed_item {entry} {new} w = closed_header entry w (closed_marked (length new) new refl)

-- an item appended to a front keeps it closed
pub closed_append_item : {entry : List ℕ} {front : States} {bytes new : Entries} → Closed zero front bytes → Whole entry (length new) new
    → Closed zero (front ++ replicate (suc (length new)) Written) (bytes ++ entry ∷ new)
closed_append_item c w = closed_append c (closed_item w)

-- ---- the reading of a front and a rest

pub walk_closed : {k : ℕ} {front : States} {bytes : Entries} (rest : States) (others : Entries) → Closed k front bytes
    → walk k Written (front ++ rest) (bytes ++ others) ≡ front ++ walk zero Erased rest others
walk_closed rest others closed_nil = walk_zero Written Erased rest others
walk_closed rest others (closed_erased {states} {entries} entry c) =
    ap (λ (news : States). Erased ∷ news) (walk_zero Erased Written (states ++ rest) (entries ++ others) ∙ walk_closed rest others c)
walk_closed rest others (closed_header entry w c) =
    rw (verdict_kept_item (good_closed_append rest others w c)) (ap (λ (news : States). Written ∷ news) (walk_closed rest others c))
walk_closed rest others (closed_covered entry c) = ap (λ (news : States). Written ∷ news) (walk_closed rest others c)

pub kept_from_closed : {k : ℕ} {front : States} {bytes : Entries} (i : ℕ) (rest : States) (others : Entries) → Closed k front bytes
    → kept_from k i (front ++ rest) (bytes ++ others) ≡ kept_from k i front bytes ++ kept_from zero (i + length front) rest others
kept_from_closed i rest others closed_nil = rw add-zero
kept_from_closed i rest others (closed_erased {states} entry c) = rw (add-suc, ← suc-add i (length states)) (kept_from_closed (suc i) rest others c)
kept_from_closed i rest others (closed_header {k} {states} {entries} entry w c) =
    rw (
      verdict_kept_item (good_closed_append rest others w c),
      verdict_kept_item (good_closed w c),
      take-append-le k entries others (whole_fits w),
      add-suc,
      ← suc-add i (length states),
    )
    (ap (λ (items : List Item). item i (entry ∷ take k entries) ∷ items) (kept_from_closed (suc i) rest others c))
kept_from_closed i rest others (closed_covered {states = states} entry c) = rw (add-suc, ← suc-add i (length states)) (kept_from_closed (suc i) rest others c)

pub shut_before_tail_closed : {k : ℕ} {front : States} {bytes : Entries} (rest : States) (others : Entries) → Closed k front bytes
    → shut_before_tail (front ++ rest) (bytes ++ others) ≡ front ++ shut_before_tail rest others
shut_before_tail_closed rest others closed_nil = refl
shut_before_tail_closed rest others (closed_erased entry c) = ap (λ (news : States). Erased ∷ news) (shut_before_tail_closed rest others c)
shut_before_tail_closed rest others (closed_header entry w c) = ap (λ (news : States). Written ∷ news) (shut_before_tail_closed rest others c)
shut_before_tail_closed rest others (closed_covered entry c) = ap (λ (news : States). Written ∷ news) (shut_before_tail_closed rest others c)

-- the front stays as it is
pub opened_states_closed : {front : States} {bytes : Entries} (rest : States) (others : Entries) → Closed zero front bytes
    → opened_states (front ++ rest) (bytes ++ others) ≡ front ++ opened_states rest others
unfolding opened_states
opened_states_closed {front} {bytes} rest others c =
    rw (walk_zero Erased Written (front ++ rest) (bytes ++ others), walk_closed rest others c)
    (shut_before_tail_closed (walk zero Erased rest others) others c)
