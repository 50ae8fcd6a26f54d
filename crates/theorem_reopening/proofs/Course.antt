-- The course of the walk: what it meets from an entry on, as evidence to go by cases on.
--
-- Every law of the reading is an induction on a course, with a line for each thing that the walk can meet.
use mathlib.Core.Path.{◌≡◌, sym}
use mathlib.Core.Bool.{Bool, true, false, and-eq-true_iff}
use mathlib.Core.List.{List, [], ◌∷◌}
use Rattle.std.specs.Prelude.{Some}
use Prim.Native.Nat.{ℕ, zero, suc, ◌≤◌, zero-le}
use native.Mathlib.Nat.{le_of_suc-le-suc, not-suc-le-zero, suc_inj, suc-ne-zero}
use lib.ListN.{length}
use Rattle.sector.specs.declared.EntryMapState.{EntryMapState}
use Rattle.sector.specs.declared.EntryMapState.TheVariants.{Empty, Written, Erased, Illegal}
use Rattle.opening_reading.specs.declared.Reason.{Reason}
use Rattle.opening_reading.specs.Reading.{header_refusal, is_usable, usable}
use Rattle.opening_reading.proofs.Verdicts.{States, Entries, Good, whole_fits, Spoiled, spoiled_fits, Decided, refused_entry, refused_item, kept_item, decided}

-- k entries are stepped over and get the mark; then the walk looks at the next
pub data Course : ℕ → EntryMapState → States → Entries → Type 0 where
  ends : Course zero Erased [] []
  meets_empty : {states : States} {entries : Entries} (entry : List ℕ) → Course zero Erased states entries
      → Course zero Erased (Empty ∷ states) (entry ∷ entries)
  meets_erased : {states : States} {entries : Entries} (entry : List ℕ) → Course zero Erased states entries
      → Course zero Erased (Erased ∷ states) (entry ∷ entries)
  meets_illegal : {states : States} {entries : Entries} (entry : List ℕ) → Course zero Erased states entries
      → Course zero Erased (Illegal ∷ states) (entry ∷ entries)
  refuses_entry : {reason : Reason} {states : States} {entries : Entries} (entry : List ℕ)
      → header_refusal entry (length entries) ≡ Some reason → Course zero Erased states entries
      → Course zero Erased (Written ∷ states) (entry ∷ entries)
  refuses_item : {reason : Reason} {k : ℕ} {states : States} {entries : Entries} (entry : List ℕ)
      → Spoiled reason entry k states entries → Course k Erased states entries
      → Course zero Erased (Written ∷ states) (entry ∷ entries)
  keeps_item : {k : ℕ} {states : States} {entries : Entries} (entry : List ℕ)
      → Good entry k states entries → Course k Written states entries
      → Course zero Erased (Written ∷ states) (entry ∷ entries)
  erases_behind : {k : ℕ} {states : States} {entries : Entries} (s : EntryMapState) (entry : List ℕ) → Course k Erased states entries
      → Course (suc k) Erased (s ∷ states) (entry ∷ entries)
  keeps_behind : {k : ℕ} {states : States} {entries : Entries} (s : EntryMapState) (entry : List ℕ) → is_usable s ≡ true → Course k Written states entries
      → Course (suc k) Written (s ∷ states) (entry ∷ entries)
  -- after the last covered entry the mark is of no use
  goes_further : {states : States} {entries : Entries} → Course zero Erased states entries → Course zero Written states entries

-- the mark of what a kept item covers, and of what a refused one does
abbrev behind : Bool → EntryMapState
behind true = Written
behind false = Erased

-- what is known of their states
abbrev Known : Bool → ℕ → States → Type 0
Known true k states = usable k states ≡ true
Known false k states = Unit {0}

abbrev Courses : States → Entries → Type 0
Courses states entries = (kept : Bool) (k : ℕ) → k ≤ length states → Known kept k states → Course k (behind kept) states entries

course_at : (s : EntryMapState) (states : States) (entry : List ℕ) (entries : Entries) → length states ≡ length entries → Courses states entries
    → Course zero Erased (s ∷ states) (entry ∷ entries)
course_at Empty states entry entries l h = meets_empty entry (h false zero zero-le tt)
course_at Erased states entry entries l h = meets_erased entry (h false zero zero-le tt)
course_at Illegal states entry entries l h = meets_illegal entry (h false zero zero-le tt)
course_at Written states entry entries l h = by (decided entry states entries)
  where
    by : Decided entry states entries → Course zero Erased (Written ∷ states) (entry ∷ entries)
    by (refused_entry reason e) = refuses_entry entry e (h false zero zero-le tt)
    by (refused_item reason k s) = refuses_item entry s (h false k (rw l (spoiled_fits s)) tt)
    by (kept_item k g) = keeps_item entry g (h true k (rw l (whole_fits g.whole)) g.clear)

courses : (states : States) (entries : Entries) → length states ≡ length entries → Courses states entries
courses [] [] l true zero f u = goes_further ends
courses [] [] l false zero f u = ends
courses [] [] l kept (suc k) f u = absurd (not-suc-le-zero f)
courses [] (entry ∷ entries) l kept k f u = absurd (suc-ne-zero (length entries) (sym l))
courses (s ∷ states) [] l kept k f u = absurd (suc-ne-zero (length states) l)
courses (s ∷ states) (entry ∷ entries) l true zero f u = goes_further (course_at s states entry entries (suc_inj l) (courses states entries (suc_inj l)))
courses (s ∷ states) (entry ∷ entries) l false zero f u = course_at s states entry entries (suc_inj l) (courses states entries (suc_inj l))
courses (s ∷ states) (entry ∷ entries) l true (suc k) f u =
    let both = (and-eq-true_iff (is_usable s) (usable k states)).0 u in
    keeps_behind s entry both.0 (courses states entries (suc_inj l) true k (le_of_suc-le-suc f) both.1)
courses (s ∷ states) (entry ∷ entries) l false (suc k) f u =
    erases_behind s entry (courses states entries (suc_inj l) false k (le_of_suc-le-suc f) tt)

-- the walk over a page has a course
pub course : (states : States) (entries : Entries) → length states ≡ length entries → Course zero Erased states entries
course states entries l = courses states entries l false zero zero-le tt
