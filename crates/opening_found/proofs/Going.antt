-- Going on from one kept item to the next: what the items from an entry on are by the verdict there, and what the answers are good for.
use mathlib.Core.Path.{◌≡◌, refl, sym, ap, ap₂, subst, ◌∙◌}
use mathlib.Core.List.{List, [], ◌∷◌}
use Rattle.std.specs.Prelude.{Some, None}
use Prim.Native.Nat.{ℕ, zero, suc, ◌+◌, ◌<◌, ◌≤◌}
use native.Mathlib.Decide.{dec_le}
use native.Mathlib.Numerals.{add-one}
use native.Mathlib.Omega.{arith}
use lib.ListN.{length, take, drop, length-drop}
use lib.Seq.{length-take-le}
use Rattle.sector.specs.Layout.{entries_of}
use Rattle.sector.proofs.Laws.{length-entries_of}
use Rattle.opening_reading.specs.declared.Reason.{Reason}
use Rattle.opening_reading.specs.declared.Verdict.{Verdict}
use Rattle.opening_reading.specs.declared.Verdict.TheVariants.{NotAnItem, RefusedEntry, RefusedItem, Kept}
use Rattle.opening_reading.specs.declared.Walk.{Walk}
use Rattle.opening_reading.specs.Reading.{Item, item, steps_over}
use Rattle.opening_reading.specs.Walk.{verdict_of, Tells}
use Rattle.opening_reading.proofs.Entries.{entries_from, states_past}
use Rattle.opening_reading.proofs.Steps.{steps_inside, kept_from_lem, told_verdict}
use Rattle.opening_found.specs.Found.{KeptItem, items_from, next_of, next_kept, found_from, MeetsEveryItem, GoesOn}

-- ---- the items from an entry on

-- nothing is kept by such a verdict
pub data Passed : Verdict → Type 0 where
  no_item : Passed NotAnItem
  bad_entry : (reason : Reason) → Passed (RefusedEntry reason)
  bad_item : (reason : Reason) (k : ℕ) → Passed (RefusedItem reason k)

items_past : (image map : List ℕ) (from : ℕ) → length map ≡ 32 → 126 ≤ from → items_from image map from ≡ []
items_past image map from long past = rw (states_past map from long past)

length_span : (image : List ℕ) (index span : ℕ) → index + span ≤ 126 → length (take span (drop index (entries_of image))) ≡ span
length_span image index span fits =
    length-take-le span (drop index (entries_of image)) (omega (arith, length-drop index (entries_of image), length-entries_of image))

module _ (image map : List ℕ) (from : ℕ) (long : length map ≡ 32) (inside : from < 126) where
  items_here : (k : ℕ) → verdict_of image map from ≡ Kept k
      → items_from image map from ≡ item from (take (suc k) (drop from (entries_of image))) ∷ items_from image map (from + suc k)
  items_here k e =
      let on : from + 1 + k ≡ from + suc k = omega arith in
      (rw e at (kept_from_lem image map from long inside))
      ∙ ap₂ (λ (entries : List (List ℕ)) (next : ℕ). item from (take (suc k) entries) ∷ items_from image map next) (sym (entries_from image from inside)) on

  items_further : {v : Verdict} → Passed v → verdict_of image map from ≡ v → items_from image map from ≡ items_from image map (from + 1 + steps_over v)
  items_further no_item e = rw e at (kept_from_lem image map from long inside)
  items_further (bad_entry reason) e = rw e at (kept_from_lem image map from long inside)
  items_further (bad_item reason k) e = rw e at (kept_from_lem image map from long inside)

-- ---- the answer at an entry

abbrev pub kept_item : ℕ → ℕ → KeptItem
kept_item index span = record { index = index; span = span }

pub next_past : (image map : List ℕ) (from : ℕ) → length map ≡ 32 → 126 ≤ from → next_kept image map from ≡ None
unfolding next_kept
next_past image map from long past = ap next_of (items_past image map from long past)

module _ (image map : List ℕ) (from : ℕ) (long : length map ≡ 32) (inside : from < 126) where
  pub next_here : (k : ℕ) → verdict_of image map from ≡ Kept k → next_kept image map from ≡ Some (record { index = from; span = k + 1 })
  unfolding next_kept
  next_here k e =
      let fits : from + k < 126 = rw e at (steps_inside image map from long inside) in
      ap next_of (items_here image map from long inside k e)
      ∙ ap (λ (span : ℕ). Some (kept_item from span)) (length_span image from (suc k) (omega arith) ∙ sym (add-one k))

  pub next_further : {v : Verdict} → Passed v → verdict_of image map from ≡ v → next_kept image map from ≡ next_kept image map (from + 1 + steps_over v)
  unfolding next_kept
  next_further passed e = ap next_of (items_further image map from long inside passed e)

-- ---- the answer where a walk is

-- what a walk over this page told, and where it is then
module _ {image map : List ℕ} {walk rest : Walk} {index : ℕ} {verdict : Verdict} (long : length map ≡ 32)
    (of_image : walk.image.now ≡ image) (of_map : walk.map ≡ map) (told : Tells walk (index, verdict) rest) where
  pub tells_kept : (k : ℕ) → verdict ≡ Kept k → (index + k < 126) × (next_kept image map walk.index ≡ Some (kept_item index (k + 1)))
  tells_kept k e =
      let kept = told_verdict of_image of_map told ∙ e in
      let fits : walk.index + k < 126 = rw kept at (steps_inside image map walk.index long told.inside) in
      rw told.index (fits, next_here image map walk.index long told.inside k kept)

  pub tells_passed : Passed verdict → next_kept image map walk.index ≡ next_kept image map rest.index
  tells_passed passed = rw told.next (next_further image map walk.index long told.inside passed (told_verdict of_image of_map told))

-- ---- going on

-- what lies from an entry on: nothing, or an item further on, and what is kept after it
data Going (image map : List ℕ) (from : ℕ) : List Item → Type 0 where
  ends : Going image map from []
  finds : (index k : ℕ) → from ≤ index → index + suc k ≤ 126
      → Going image map from (item index (take (suc k) (drop index (entries_of image))) ∷ items_from image map (index + suc k))

going_before : {image map : List ℕ} {from next : ℕ} {items : List Item} → from ≤ next → Going image map next items → Going image map from items
going_before h ends = ends
going_before h (finds index k after fits) = finds index k (omega arith) fits

-- where the verdict is known, and what lies further on
module _ (image map : List ℕ) (from : ℕ) (long : length map ≡ 32) (rest : (next : ℕ) → from < next → Going image map next (items_from image map next)) where
  further : {v : Verdict} → from < 126 → Passed v → verdict_of image map from ≡ v → Going image map from (items_from image map from)
  further {v} inside passed e =
      subst (λ (items : List Item). Going image map from items) (sym (items_further image map from long inside passed e))
      (going_before (omega arith) (rest (from + 1 + steps_over v) (omega arith)))

  by_verdict : (v : Verdict) → from < 126 → verdict_of image map from ≡ v → Going image map from (items_from image map from)
  by_verdict NotAnItem inside e = further inside no_item e
  by_verdict (RefusedEntry reason) inside e = further inside (bad_entry reason) e
  by_verdict (RefusedItem reason k) inside e = further inside (bad_item reason k) e
  by_verdict (Kept k) inside e =
      let fits : from + k < 126 = rw e at (steps_inside image map from long inside) in
      subst (λ (items : List Item). Going image map from items) (sym (items_here image map from long inside k e)) (finds from k (omega arith) (omega arith))

  by_place : Dec (126 ≤ from) → Going image map from (items_from image map from)
  by_place (yes past) = rw (items_past image map from long past) ends
  by_place (no inside) = by_verdict (verdict_of image map from) (omega arith) refl

going_most : (image map : List ℕ) (n from : ℕ) → length map ≡ 32 → 126 ≤ from + n → Going image map from (items_from image map from)
going_most image map zero from long past = rw (items_past image map from long (omega arith)) ends
going_most image map (suc n) from long most =
    by_place image map from long (λ next after. going_most image map n next long (omega arith)) (dec_le 126 from)

going : (image map : List ℕ) (from : ℕ) → length map ≡ 32 → Going image map from (items_from image map from)
going image map from long = going_most image map 126 from long (omega arith)

-- ---- the statements

met : {image map : List ℕ} {from : ℕ} {items : List Item} → Going image map from items → items ≡ found_from image map (next_of items)
met ends = refl
met {image} (finds index k after fits) = rw (length_span image index (suc k) fits)

pub meets_every_item : MeetsEveryItem
unfolding next_kept
meets_every_item image map from long = met (going image map from long)

on_page : {image map : List ℕ} {from : ℕ} {items : List Item} (kept : KeptItem) → Going image map from items → next_of items ≡ Some kept
    → (from ≤ kept.index) × (0 < kept.span) × (kept.index + kept.span ≤ 126)
on_page kept ends e = let z : ◌≡◌ {A = ℕ} 0 1 = cc in absurd (omega arith)
on_page {image} kept (finds found k after fits) e =
    let same : kept_item found (length (take (suc k) (drop found (entries_of image)))) ≡ kept = cc in
    let there : found ≡ kept.index = ap (λ (one : KeptItem). one.index) same in
    let long : suc k ≡ kept.span = sym (length_span image found (suc k) fits) ∙ ap (λ (one : KeptItem). one.span) same in
    (omega arith, omega arith, omega arith)

pub goes_on : GoesOn
unfolding next_kept
goes_on image map from kept long e = on_page kept (going image map from long) e
