-- The reading as a loop takes it, from index to index: k entries stepped over are k entries dropped.
--
-- In order: entries stepped over; what a verdict says of the states and entries that it was made of; the verdict at an index of a page, and what the
-- walk marks and keeps from there on.
use mathlib.Core.Path.{◌≡◌, refl, sym, ap, ap₂, ◌∙◌}
use mathlib.Core.Bool.{Bool, true, false}
use mathlib.Core.List.{List, [], ◌∷◌, ◌++◌}
use Rattle.std.specs.Prelude.{Option, Some, None}
use Prim.Native.Nat.{ℕ, zero, suc, ◌+◌, ◌-◌, ◌<◌, ◌≤◌, zero-le}
use native.Mathlib.Nat.{le_of_suc-le-suc, not-suc-le-zero, add-zero, add-suc, suc-add}
use native.Mathlib.Numerals.{add-one}
use native.Mathlib.Omega.{arith}
use lib.ListN.{length, take, drop, replicate, length-drop}
use lib.Seq.{drop-drop}
use Rattle.sector.specs.declared.EntryMapState.{EntryMapState}
use Rattle.sector.specs.declared.EntryMapState.TheVariants.{Empty, Written, Erased, Illegal}
use Rattle.sector.specs.Layout.{entry_at, entries_of}
use Rattle.sector.specs.Map.{state_at, states_of}
use Rattle.sector.proofs.Laws.{length-states_of}
use Rattle.opening_reading.specs.Reading.{Reason, Verdict, Kept, covered, header_refusal, payload_refusal, usable, item_verdict, header_verdict, verdict_at, steps_over, mark_of, mark_behind, walk, with_kept, kept_from}
use Rattle.opening_reading.specs.declared.Walk.{Walk}
use Rattle.opening_reading.specs.Walk.{verdict_of, Tells}
use Rattle.opening_reading.proofs.Entries.{states_from, entries_from, entries_left}
use Rattle.opening_reading.proofs.Midway.{walk_zero}
use Rattle.opening_reading.proofs.Verdicts.{header_fits}

pub walk_skip : (k : ℕ) (mark : EntryMapState) (states : List EntryMapState) (entries : List (List ℕ)) → k ≤ length states → k ≤ length entries
    → walk k mark states entries ≡ replicate k mark ++ walk zero Erased (drop k states) (drop k entries)
walk_skip zero mark states entries h g = walk_zero mark Erased states entries
walk_skip (suc k) mark [] entries h g = absurd (not-suc-le-zero h)
walk_skip (suc k) mark (s ∷ states) [] h g = absurd (not-suc-le-zero g)
walk_skip (suc k) mark (s ∷ states) (entry ∷ entries) h g =
    ap (λ (rest : List EntryMapState). mark ∷ rest) (walk_skip k mark states entries (le_of_suc-le-suc h) (le_of_suc-le-suc g))

pub kept_skip : (k i : ℕ) (states : List EntryMapState) (entries : List (List ℕ)) → k ≤ length states → k ≤ length entries
    → kept_from k i states entries ≡ kept_from zero (i + k) (drop k states) (drop k entries)
kept_skip zero i states entries h g = rw add-zero
kept_skip (suc k) i [] entries h g = absurd (not-suc-le-zero h)
kept_skip (suc k) i (s ∷ states) [] h g = absurd (not-suc-le-zero g)
kept_skip (suc k) i (s ∷ states) (entry ∷ entries) h g =
    rw (add-suc, ← suc-add i k) (kept_skip k (suc i) states entries (le_of_suc-le-suc h) (le_of_suc-le-suc g))

-- ---- what a verdict says of the states and entries that it was made of

steps_over_item : (refusal : Option Reason) (all_usable : Bool) (k : ℕ) → steps_over (item_verdict refusal all_usable k) ≡ k
steps_over_item (Some reason) all_usable k = refl
steps_over_item None true k = refl
steps_over_item None false k = refl

-- the walk steps over entries of the page
pub steps_over_le : (s : EntryMapState) (entry : List ℕ) (states : List EntryMapState) (entries : List (List ℕ))
    → steps_over (verdict_at s entry states entries) ≤ length entries
steps_over_le Empty entry states entries = zero-le
steps_over_le Written entry states entries = go (header_refusal entry (length entries)) refl
  where
    go : (refusal : Option Reason) → header_refusal entry (length entries) ≡ refusal
        → steps_over (header_verdict refusal entry states entries) ≤ length entries
    go (Some reason) e = zero-le
    go None e =
        rw (steps_over_item (payload_refusal entry (take (covered entry) entries)) (usable (covered entry) states) (covered entry))
        (header_fits entry (length entries) e)
steps_over_le Erased entry states entries = zero-le
steps_over_le Illegal entry states entries = zero-le

item_kept : (refusal : Option Reason) (all_usable : Bool) (c k : ℕ) → item_verdict refusal all_usable c ≡ Kept k
    → (all_usable ≡ true) × (c ≡ k)
item_kept (Some reason) all_usable c k e = let z : ◌≡◌ {A = ℕ} 0 1 = cc in absurd (omega arith)
item_kept None true c k e = (refl, cc)
item_kept None false c k e = let z : ◌≡◌ {A = ℕ} 0 1 = cc in absurd (omega arith)

-- a kept header is Written, and the entries that it covers are usable
pub kept_usable : (s : EntryMapState) (entry : List ℕ) (states : List EntryMapState) (entries : List (List ℕ)) (k : ℕ)
    → verdict_at s entry states entries ≡ Kept k → (s ≡ Written) × (usable k states ≡ true)
kept_usable Empty entry states entries k e = let z : ◌≡◌ {A = ℕ} 0 1 = cc in absurd (omega arith)
kept_usable Written entry states entries k e = (refl, go (header_refusal entry (length entries)) e)
  where
    go : (refusal : Option Reason) → header_verdict refusal entry states entries ≡ Kept k → usable k states ≡ true
    go (Some reason) kept = let z : ◌≡◌ {A = ℕ} 0 1 = cc in absurd (omega arith)
    go None kept =
        let both = item_kept (payload_refusal entry (take (covered entry) entries)) (usable (covered entry) states) (covered entry) k kept in
        ap (λ (n : ℕ). usable n states) (sym both.1) ∙ both.0
kept_usable Erased entry states entries k e = let z : ◌≡◌ {A = ℕ} 0 1 = cc in absurd (omega arith)
kept_usable Illegal entry states entries k e = let z : ◌≡◌ {A = ℕ} 0 1 = cc in absurd (omega arith)

-- ---- the verdict at an index

module _ (image map : List ℕ) (i : ℕ) (long : length map ≡ 32) (inside : i < 126) where
  pub states_behind : length (drop (i + 1) (states_of map)) ≡ 125 - i
  states_behind =
      let all = length-states_of map long in
      length-drop (i + 1) (states_of map) ∙ omega arith

  -- the walk does not leave the page
  pub steps_inside : i + steps_over (verdict_of image map i) < 126
  steps_inside =
      let steps = steps_over_le (state_at map i) (entry_at image i) (drop (i + 1) (states_of map)) (drop (i + 1) (entries_of image)) in
      let left = entries_left image i in
      omega arith

  pub steps_states : steps_over (verdict_of image map i) ≤ length (drop (i + 1) (states_of map))
  steps_states = rw states_behind (omega (arith, steps_inside))

  pub steps_entries : steps_over (verdict_of image map i) ≤ length (drop (i + 1) (entries_of image))
  steps_entries = rw (entries_left image i) (omega (arith, steps_inside))

  -- ---- one step of each list, from what is left at this index

  -- what is read of the states and entries from here on begins with these
  pub here : {A : Type 0} (reads : List EntryMapState → List (List ℕ) → A)
      → reads (drop i (states_of map)) (drop i (entries_of image))
      ≡ reads (state_at map i ∷ drop (i + 1) (states_of map)) (entry_at image i ∷ drop (i + 1) (entries_of image))
  here reads = ap₂ reads (states_from map i long inside) (entries_from image i inside)

  -- and goes on after those that are stepped over
  pub after : {A : Type 0} (reads : List EntryMapState → List (List ℕ) → A) (k : ℕ)
      → reads (drop k (drop (i + 1) (states_of map))) (drop k (drop (i + 1) (entries_of image)))
      ≡ reads (drop (i + 1 + k) (states_of map)) (drop (i + 1 + k) (entries_of image))
  after reads k = ap₂ reads (drop-drop k (i + 1) (states_of map)) (drop-drop k (i + 1) (entries_of image))

  pub walk_from :
      let v = verdict_of image map i in
      walk zero Erased (drop i (states_of map)) (drop i (entries_of image))
      ≡ (mark_of (state_at map i) v ∷ replicate (steps_over v) (mark_behind v))
      ++ walk zero Erased (drop (i + 1 + steps_over v) (states_of map)) (drop (i + 1 + steps_over v) (entries_of image))
  walk_from =
      let v = verdict_of image map i in
      here (walk zero Erased)
      ∙ ap (λ (rest : List EntryMapState). mark_of (state_at map i) v ∷ rest)
      (walk_skip (steps_over v) (mark_behind v) (drop (i + 1) (states_of map)) (drop (i + 1) (entries_of image)) steps_states steps_entries
      ∙ after (λ ss es. replicate (steps_over v) (mark_behind v) ++ walk zero Erased ss es) (steps_over v))

  pub kept_from_lem :
      let v = verdict_of image map i in
      kept_from zero i (drop i (states_of map)) (drop i (entries_of image))
      ≡ with_kept v i (entry_at image i) (drop (i + 1) (entries_of image))
      (kept_from zero (i + 1 + steps_over v) (drop (i + 1 + steps_over v) (states_of map)) (drop (i + 1 + steps_over v) (entries_of image)))
  kept_from_lem =
      let v = verdict_of image map i in
      let entries = drop (i + 1) (entries_of image) in
      here (kept_from zero i)
      ∙ ap (with_kept v i (entry_at image i) entries)
      (kept_skip (steps_over v) (suc i) (drop (i + 1) (states_of map)) entries steps_states steps_entries
      ∙ rw (← add-one i) (after (kept_from zero (i + 1 + steps_over v)) (steps_over v)))

-- ---- what a walk over a page told

module _ {image map : List ℕ} {walk rest : Walk} {index : ℕ} {verdict : Verdict} (of_image : walk.image.now ≡ image) (of_map : walk.map ≡ map)
    (told : Tells walk (index, verdict) rest) where
  -- the verdict at the entry that the walk had reached
  pub told_verdict : verdict_of image map walk.index ≡ verdict
  told_verdict = rw (← of_image, ← of_map) (sym told.verdict)

  -- what it steps over lies on the page
  pub told_inside : length map ≡ 32 → walk.index + steps_over verdict < 126
  told_inside long = rw told_verdict at (steps_inside image map walk.index long told.inside)
