-- Opening twice: the second time changes nothing, and keeps the same items.
--
-- In order: what opening leaves from an entry on; its length; opening twice.
use mathlib.Core.Path.{◌≡◌, refl, ap, ◌∙◌}
use mathlib.Core.Bool.{Bool, true, false, ◌&&◌, cond}
use mathlib.Core.List.{List, [], ◌∷◌}
use Prim.Native.Nat.{ℕ, zero, suc}
use lib.ListN.{length}
use Rattle.flash.specs.Flash.{all_ones}
use Rattle.sector.specs.declared.EntryMapState.{EntryMapState}
use Rattle.sector.specs.declared.EntryMapState.TheVariants.{Empty, Written, Erased, Illegal}
use Rattle.opening_reading.specs.Reading.{usable, verdict_at, steps_over, mark_behind, walk, kept_from, is_free_tail, shut_before_tail, opened_states}
use Rattle.opening_reading.proofs.Verdicts.{States, Entries, Good, verdict_refused_item, verdict_kept_item}
use Rattle.theorem_reopening.proofs.Course.{Course, ends, meets_empty, meets_erased, meets_illegal, refuses_entry, refuses_item, keeps_item, erases_behind, keeps_behind, goes_further, course}
use Rattle.opening_reading.proofs.Midway.{is_erased, is_illegal, Midway, walk_zero, midway_alike, midway_kept}

-- what opening leaves, from an entry on
abbrev pub opened_from : ℕ → EntryMapState → States → Entries → States
opened_from k mark states entries = shut_before_tail (walk k mark states entries) entries

-- ---- the length

length_walk : (k : ℕ) (mark : EntryMapState) (states : States) (entries : Entries) → length (walk k mark states entries) ≡ length states
length_walk k mark [] entries = refl
length_walk k mark (s ∷ states) [] = refl
length_walk zero mark (s ∷ states) (entry ∷ entries) =
    let verdict = verdict_at s entry states entries in ap suc (length_walk (steps_over verdict) (mark_behind verdict) states entries)
length_walk (suc k) mark (s ∷ states) (entry ∷ entries) = ap suc (length_walk k mark states entries)

length-shut_before_tail : (states : States) (entries : Entries) → length (shut_before_tail states entries) ≡ length states
length-shut_before_tail [] entries = refl
length-shut_before_tail (s ∷ states) [] = refl
length-shut_before_tail (s ∷ states) (entry ∷ entries) = ap suc (length-shut_before_tail states entries)

pub length-opened_states : (states : States) (entries : Entries) → length (opened_states states entries) ≡ length states
unfolding opened_states
length-opened_states states entries = length-shut_before_tail (walk zero Erased states entries) entries ∙ length_walk zero Erased states entries

-- ---- twice

-- the second walk steps over what a kept item covers, and meets what a refused one did entry by entry
abbrev pub again : EntryMapState → ℕ → ℕ
again Empty k = zero
again Written k = k
again Erased k = zero
again Illegal k = zero

-- what a kept item covers is left Written
usable_opened : {k : ℕ} {states : States} {entries : Entries} → Course k Written states entries → usable k (opened_from k Written states entries) ≡ true
usable_opened (keeps_behind s entry u c) = usable_opened c
usable_opened (goes_further c) = refl

good_opened : {k : ℕ} {entry : List ℕ} {states : States} {entries : Entries} → Good entry k states entries → Course k Written states entries
    → Good entry k (opened_from k Written states entries) entries
good_opened g c = record { whole = g.whole; clear = usable_opened c }

pub opened_midway : {k : ℕ} {mark : EntryMapState} {states : States} {entries : Entries} → Course k mark states entries
    → Midway (again mark k) k mark (opened_from k mark states entries) states entries entries
opened_midway ends = Midway.ends
opened_midway (meets_empty {states} {entries} entry c) = by (opened_midway c) (all_ones entry && is_free_tail (walk zero Erased states entries) entries) refl
  where
    by : Midway zero zero Erased (opened_from zero Erased states entries) states entries entries → (free : Bool)
        → (all_ones entry && is_free_tail (walk zero Erased states entries) entries) ≡ free
        → Midway zero zero Erased (cond free Empty Erased ∷ opened_from zero Erased states entries) (Empty ∷ states) (entry ∷ entries) (entry ∷ entries)
    by m true e = Midway.still_empty entry m
    by m false e = Midway.shut_empty entry is_erased e m
opened_midway (meets_erased entry c) = Midway.shut_gone entry entry is_erased is_erased (opened_midway c)
opened_midway (meets_illegal entry c) = Midway.shut_gone entry entry is_erased is_illegal (opened_midway c)
opened_midway (refuses_entry entry e c) = rw e (Midway.erased_entry entry e (opened_midway c))
opened_midway (refuses_item entry s c) = rw (verdict_refused_item s) (Midway.erased_item entry s (opened_midway c))
opened_midway (keeps_item entry g c) = rw (verdict_kept_item g) (Midway.keeps_item entry (good_opened g c) g refl (opened_midway c))
opened_midway (erases_behind s entry c) = Midway.gone_behind s entry entry is_erased (opened_midway c)
opened_midway (keeps_behind s entry u c) = Midway.keeps_behind Written s entry (opened_midway c)
opened_midway (goes_further {states} {entries} c) = rw (walk_zero Written Erased states entries) (Midway.goes_further (opened_midway c))

-- opening twice changes nothing the second time
pub opened_states_twice : (states : States) (entries : Entries) → length states ≡ length entries
    → opened_states (opened_states states entries) entries ≡ opened_states states entries
unfolding opened_states
opened_states_twice states entries l = (midway_alike (opened_midway (course states entries l))).left

-- and keeps what was kept
pub kept_opened_states : (i : ℕ) (states : States) (entries : Entries) → length states ≡ length entries
    → kept_from zero i (opened_states states entries) entries ≡ kept_from zero i states entries
unfolding opened_states
kept_opened_states i states entries l = midway_kept i (opened_midway (course states entries l))
