-- A page midway: some of its marks are already those that opening leaves, and bytes of entries that are not read may have changed. Opened, it comes
-- to the same.
--
-- In order: a state marked Written; states that come out alike after the walk; the page midway; its walk comes out alike, and it keeps the same items.
-- The theorems about opening twice, about a cut during opening and about the bytes of Erased entries each show that a page is midway.
use mathlib.Core.Path.{◌≡◌, refl, sym, ap, ◌∙◌}
use mathlib.Core.Bool.{true, false, ◌&&◌}
use mathlib.Core.List.{List, [], ◌∷◌}
use Rattle.std.specs.Prelude.{Some}
use Prim.Native.Nat.{ℕ, zero, suc}
use native.Mathlib.Nat.{suc_inj}
use lib.ListN.{length, take}
use Rattle.flash.specs.Flash.{all_ones}
use Rattle.sector.specs.declared.EntryMapState.{EntryMapState}
use Rattle.sector.specs.declared.EntryMapState.TheVariants.{Empty, Written, Erased, Illegal}
use Rattle.sector.proofs.Marks.{both}
use Rattle.opening_reading.specs.Reading.{Reason, header_refusal, is_usable, walk, Item, item, kept_from, is_free_tail, shut, shut_before_tail}
use Rattle.opening_reading.proofs.Verdicts.{States, Entries, Good, Spoiled, verdict_refused_item, verdict_kept_item}

-- ---- states

-- what a kept item covers is Written once it is marked
pub both_written : (s : EntryMapState) → is_usable s ≡ true → both s Written ≡ Written
both_written Empty u = refl
both_written Written u = refl
both_written Erased u = cc
both_written Illegal u = cc

-- ---- alike after the walk

-- the free tail is the same, and so is all that opening leaves
pub record Alike (xs ys : States) (bytes entries : Entries) : Type 0 where
  pub free : is_free_tail xs bytes ≡ is_free_tail ys entries
  pub left : shut_before_tail xs bytes ≡ shut_before_tail ys entries

alike_cons : {xs ys : States} {bytes entries : Entries} (s : EntryMapState) (entry : List ℕ)
    → Alike xs ys bytes entries → Alike (s ∷ xs) (s ∷ ys) (entry ∷ bytes) (entry ∷ entries)
alike_cons s entry a = record { free = rw a.free; left = rw (a.free, a.left) }

-- two states that become the same before the free tail
alike_shut : {x y : EntryMapState} {xs ys : States} {other entry : List ℕ} {bytes entries : Entries} → shut x ≡ shut y
    → is_free_tail (x ∷ xs) (other ∷ bytes) ≡ false → is_free_tail (y ∷ ys) (entry ∷ entries) ≡ false → Alike xs ys bytes entries
    → Alike (x ∷ xs) (y ∷ ys) (other ∷ bytes) (entry ∷ entries)
alike_shut e f g a = record { free = f ∙ sym g; left = rw (f, g, e, a.left) }

-- ---- midway

-- a state that no item has and that opening makes Erased
pub data Gone : EntryMapState → Type 0 where
  is_erased : Gone Erased
  is_illegal : Gone Illegal

-- states and entries midway, and those before, from an entry on, of which the two walks step over j and k
pub data Midway : ℕ → ℕ → EntryMapState → States → States → Entries → Entries → Type 0 where
  ends : Midway zero zero Erased [] [] [] []
  still_empty : {mid old : States} {bytes entries : Entries} (entry : List ℕ) → Midway zero zero Erased mid old bytes entries
      → Midway zero zero Erased (Empty ∷ mid) (Empty ∷ old) (entry ∷ bytes) (entry ∷ entries)
  shut_empty : {s : EntryMapState} {mid old : States} {bytes entries : Entries} (entry : List ℕ)
      → Gone s → (all_ones entry && is_free_tail (walk zero Erased old entries) entries) ≡ false → Midway zero zero Erased mid old bytes entries
      → Midway zero zero Erased (s ∷ mid) (Empty ∷ old) (entry ∷ bytes) (entry ∷ entries)
  shut_gone : {s t : EntryMapState} {mid old : States} {bytes entries : Entries} (other entry : List ℕ)
      → Gone s → Gone t → Midway zero zero Erased mid old bytes entries
      → Midway zero zero Erased (s ∷ mid) (t ∷ old) (other ∷ bytes) (entry ∷ entries)
  refuses_entry : {reason : Reason} {mid old : States} {bytes entries : Entries} (entry : List ℕ)
      → length bytes ≡ length entries → header_refusal entry (length entries) ≡ Some reason
      → Midway zero zero Erased mid old bytes entries
      → Midway zero zero Erased (Written ∷ mid) (Written ∷ old) (entry ∷ bytes) (entry ∷ entries)
  erased_entry : {reason : Reason} {mid old : States} {bytes entries : Entries} (entry : List ℕ)
      → header_refusal entry (length entries) ≡ Some reason → Midway zero zero Erased mid old bytes entries
      → Midway zero zero Erased (Erased ∷ mid) (Written ∷ old) (entry ∷ bytes) (entry ∷ entries)
  refuses_item : {other reason : Reason} {k : ℕ} {mid old : States} {bytes entries : Entries} (entry : List ℕ)
      → Spoiled other entry k mid bytes → Spoiled reason entry k old entries → Midway k k Erased mid old bytes entries
      → Midway zero zero Erased (Written ∷ mid) (Written ∷ old) (entry ∷ bytes) (entry ∷ entries)
  erased_item : {reason : Reason} {k : ℕ} {mid old : States} {bytes entries : Entries} (entry : List ℕ)
      → Spoiled reason entry k old entries → Midway zero k Erased mid old bytes entries
      → Midway zero zero Erased (Erased ∷ mid) (Written ∷ old) (entry ∷ bytes) (entry ∷ entries)
  keeps_item : {k : ℕ} {mid old : States} {bytes entries : Entries} (entry : List ℕ)
      → Good entry k mid bytes → Good entry k old entries → take k bytes ≡ take k entries → Midway k k Written mid old bytes entries
      → Midway zero zero Erased (Written ∷ mid) (Written ∷ old) (entry ∷ bytes) (entry ∷ entries)
  erases_behind : {k : ℕ} {mid old : States} {bytes entries : Entries} (s t : EntryMapState) (other entry : List ℕ)
      → Midway k k Erased mid old bytes entries
      → Midway (suc k) (suc k) Erased (s ∷ mid) (t ∷ old) (other ∷ bytes) (entry ∷ entries)
  -- the header is erased already: what it stepped over is met entry by entry
  gone_behind : {s : EntryMapState} {k : ℕ} {mid old : States} {bytes entries : Entries} (t : EntryMapState) (other entry : List ℕ)
      → Gone s → Midway zero k Erased mid old bytes entries
      → Midway zero (suc k) Erased (s ∷ mid) (t ∷ old) (other ∷ bytes) (entry ∷ entries)
  keeps_behind : {k : ℕ} {mid old : States} {bytes entries : Entries} (s t : EntryMapState) (entry : List ℕ)
      → Midway k k Written mid old bytes entries
      → Midway (suc k) (suc k) Written (s ∷ mid) (t ∷ old) (entry ∷ bytes) (entry ∷ entries)
  goes_further : {mid old : States} {bytes entries : Entries} → Midway zero zero Erased mid old bytes entries → Midway zero zero Written mid old bytes entries

-- the next k states are gone
pub data AllGone : ℕ → States → Type 0 where
  gone_zero : {mid : States} → AllGone zero mid
  gone_suc : {k : ℕ} {s : EntryMapState} {mid : States} → Gone s → AllGone k mid → AllGone (suc k) (s ∷ mid)

-- the mark of what is stepped over, where the two walks step over alike
midway_gone_at : {mid old : States} {bytes entries : Entries} (j k : ℕ) → j ≡ k → AllGone k mid → Midway j k Erased mid old bytes entries
    → Midway zero k Erased mid old bytes entries
midway_gone_at zero k e a m = m
midway_gone_at (suc j) zero e a m = elim m [ ]
midway_gone_at (suc j) (suc k) e (gone_suc g a) (erases_behind s t other entry m) = gone_behind t other entry g (midway_gone_at j k (suc_inj e) a m)

-- then it makes no difference whether the walk steps over them
pub midway_gone : {mid old : States} {bytes entries : Entries} (k : ℕ) → AllGone k mid → Midway k k Erased mid old bytes entries
    → Midway zero k Erased mid old bytes entries
midway_gone k a m = midway_gone_at k k refl a m

-- ---- the walk comes out alike

-- where no entry is stepped over, the mark is of no use
pub walk_zero : (mark other : EntryMapState) (states : States) (entries : Entries) → walk zero mark states entries ≡ walk zero other states entries
walk_zero mark other [] entries = refl
walk_zero mark other (s ∷ states) [] = refl
walk_zero mark other (s ∷ states) (entry ∷ entries) = refl

pub midway_alike : {j k : ℕ} {mark : EntryMapState} {mid old : States} {bytes entries : Entries}
    → Midway j k mark mid old bytes entries → Alike (walk j mark mid bytes) (walk k mark old entries) bytes entries
midway_alike ends = record { free = refl; left = refl }
midway_alike (still_empty entry m) = alike_cons Empty entry (midway_alike m)
midway_alike (shut_empty entry is_erased e m) = alike_shut refl refl e (midway_alike m)
midway_alike (shut_empty entry is_illegal e m) = alike_shut refl refl e (midway_alike m)
midway_alike (shut_gone other entry is_erased is_erased m) = alike_shut refl refl refl (midway_alike m)
midway_alike (shut_gone other entry is_erased is_illegal m) = alike_shut refl refl refl (midway_alike m)
midway_alike (shut_gone other entry is_illegal is_erased m) = alike_shut refl refl refl (midway_alike m)
midway_alike (shut_gone other entry is_illegal is_illegal m) = alike_shut refl refl refl (midway_alike m)
midway_alike (refuses_entry entry l e m) = rw (l, e) (alike_cons Erased entry (midway_alike m))
midway_alike (erased_entry entry e m) = rw e (alike_cons Erased entry (midway_alike m))
midway_alike (refuses_item entry s t m) = rw (verdict_refused_item s, verdict_refused_item t) (alike_cons Erased entry (midway_alike m))
midway_alike (erased_item entry t m) = rw (verdict_refused_item t) (alike_cons Erased entry (midway_alike m))
midway_alike (keeps_item entry g h e m) = rw (verdict_kept_item g, verdict_kept_item h) (alike_cons Written entry (midway_alike m))
midway_alike (erases_behind s t other entry m) = alike_shut refl refl refl (midway_alike m)
midway_alike (gone_behind t other entry is_erased m) = alike_shut refl refl refl (midway_alike m)
midway_alike (gone_behind t other entry is_illegal m) = alike_shut refl refl refl (midway_alike m)
midway_alike (keeps_behind s t entry m) = alike_cons Written entry (midway_alike m)
midway_alike (goes_further {mid} {old} {bytes} {entries} m) = rw (walk_zero Written Erased mid bytes, walk_zero Written Erased old entries) (midway_alike m)

-- ---- the same items

pub midway_kept : {j k : ℕ} {mark : EntryMapState} {mid old : States} {bytes entries : Entries} (i : ℕ)
    → Midway j k mark mid old bytes entries → kept_from j i mid bytes ≡ kept_from k i old entries
midway_kept i ends = refl
midway_kept i (still_empty entry m) = midway_kept (suc i) m
midway_kept i (shut_empty entry is_erased e m) = midway_kept (suc i) m
midway_kept i (shut_empty entry is_illegal e m) = midway_kept (suc i) m
midway_kept i (shut_gone other entry is_erased is_erased m) = midway_kept (suc i) m
midway_kept i (shut_gone other entry is_erased is_illegal m) = midway_kept (suc i) m
midway_kept i (shut_gone other entry is_illegal is_erased m) = midway_kept (suc i) m
midway_kept i (shut_gone other entry is_illegal is_illegal m) = midway_kept (suc i) m
midway_kept i (refuses_entry entry l e m) = rw (l, e) (midway_kept (suc i) m)
midway_kept i (erased_entry entry e m) = rw e (midway_kept (suc i) m)
midway_kept i (refuses_item entry s t m) = rw (verdict_refused_item s, verdict_refused_item t) (midway_kept (suc i) m)
midway_kept i (erased_item entry t m) = rw (verdict_refused_item t) (midway_kept (suc i) m)
midway_kept i (keeps_item {k} {entries = entries} entry g h e m) =
    rw (verdict_kept_item g, verdict_kept_item h, e) (ap (λ (items : List Item). item i (entry ∷ take k entries) ∷ items) (midway_kept (suc i) m))
midway_kept i (erases_behind s t other entry m) = midway_kept (suc i) m
midway_kept i (gone_behind t other entry is_erased m) = midway_kept (suc i) m
midway_kept i (gone_behind t other entry is_illegal m) = midway_kept (suc i) m
midway_kept i (keeps_behind s t entry m) = midway_kept (suc i) m
midway_kept i (goes_further m) = midway_kept i m
