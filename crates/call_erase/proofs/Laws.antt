-- Laws of erase.
--
-- In order: the list without an index; entries that are Written; what erase's checks leave known, and its plan.
use mathlib.Core.Path.{◌≡◌, refl, ap, ◌∙◌}
use mathlib.Core.Bool.{Bool, true, false, ◌&&◌, cond}
use mathlib.Core.List.{List, [], ◌∷◌, ◌++◌, append-nil}
use Prim.Native.Nat.{ℕ, suc, ◌+◌, ◌-◌, ◌≤◌, ◌<◌}
use native.Mathlib.Numerals.{add-one}
use native.Mathlib.Nat.{pos_of_ne-zero}
use native.Mathlib.Omega.{arith}
use lib.Dec.{eqb, ltb}
use lib.ListN.{length, take, drop, get_or, set, length-append}
use lib.Seq.{take-suc, drop-cons, take_all}
use borrow.Author.Tests.{eq-eqb, ne_eqb, eqb-true, eqb-false, ltb-false, not-false}
use Rattle.flash.specs.Flash.{every}
use Rattle.flash.proofs.Laws.{neither}
use Rattle.page.specs.declared.Listed.{Listed}
use Rattle.page.specs.Record.{Page, no_item, without, padded, fit_to_use, with_erased}
use Rattle.page.proofs.Laws.{padded_more}
use Rattle.page.proofs.Plans.{length-map_units_le}
use Rattle.sector.specs.declared.EntryMapState.TheVariants.{Empty, Written, Erased}
use Rattle.sector.specs.Answers.{accepted}
use Rattle.sector.specs.declared.Refusal.TheVariants.{Stopped}
use Rattle.sector.specs.Layout.{sector_size, entries_per_page}
use Rattle.sector.specs.Map.{state_at, states_of, same_state, count_in, mark_range, map_units}
use Rattle.sector.proofs.Laws.{length-states_of, get_d_states_of, accepted_at}
use Rattle.sector.proofs.Marks.{count_in_erased}
use Rattle.call_erase.specs.Erase.{all_written, erase_checks, erase_plan}

-- ---- the list without an index

cond_append : (here : Bool) (place : Listed) (all front back : List Listed) → all ≡ front ++ back
    → cond here all (place ∷ all) ≡ cond here front (place ∷ front) ++ back
cond_append true place all front back e = e
cond_append false place all front back e = ap (λ (rest : List Listed). place ∷ rest) e

pub without_append : (index : ℕ) (xs ys : List Listed) → without index (xs ++ ys) ≡ without index xs ++ without index ys
unfolding without
without_append index [] ys = refl
without_append index (place ∷ xs) ys =
    cond_append (eqb place.index index) place (without index (xs ++ ys)) (without index xs) (without index ys) (without_append index xs ys)

module _ (index : ℕ) (list : List Listed) (k : ℕ) (inside : k < length list) where
  one_more : without index (take (k + 1) list) ≡ without index (take k list) ++ without index (get_or list k no_item ∷ [])
  one_more =
      ap (λ (n : ℕ). without index (take n list)) (add-one k)
      ∙ ap (without index) (take-suc list k no_item inside)
      ∙ without_append index (take k list) (get_or list k no_item ∷ [])

  -- a place that names the index is left out
  pub without_same : (get_or list k no_item).index ≡ index → without index (take (k + 1) list) ≡ without index (take k list)
  unfolding without
  without_same e = one_more ∙ rw (eq-eqb _ _ e) (append-nil _)

  -- a place that names another goes after those kept
  pub without_other : ((get_or list k no_item).index ≡ index → ⊥)
      → without index (take (k + 1) list) ≡ without index (take k list) ++ (get_or list k no_item ∷ [])
  unfolding without
  without_other ne = one_more ∙ rw (ne_eqb _ _ ne)

-- one place more in use
pub padded_next : (places : List Listed) (place : Listed) {list : List Listed} {n : ℕ}
    → n ≡ length places → list ≡ padded places → n < entries_per_page
    → (n + 1 ≡ length (places ++ (place ∷ []))) × (set list n place ≡ padded (places ++ (place ∷ [])))
padded_next places place counts holds h =
    (omega (arith, length-append places (place ∷ [])), rw (holds, counts) (padded_more places place (omega arith)))

-- ---- entries that are Written

-- the first of them, and those after it
pub written_next : (map : List ℕ) (i end : ℕ) → length map ≡ 32 → i < end → end ≤ entries_per_page
    → every (same_state Written) (take (end - i) (drop i (states_of map)))
    ≡ (same_state Written (state_at map i) && every (same_state Written) (take (end - (i + 1)) (drop (i + 1) (states_of map))))
written_next map i end long h inside =
    let more : end - i ≡ suc (end - (i + 1)) = omega arith in
    let on_page : i < length (states_of map) = rw (length-states_of map long) (omega arith) in
    rw (more, drop-cons (states_of map) i Empty on_page, get_d_states_of map i long (omega arith), add-one i)

-- all Written, they are no more than the Written entries of the map
pub written_le : (map : List ℕ) (index span : ℕ) → length map ≡ 32 → index + span ≤ entries_per_page → all_written map index span ≡ true
    → span ≤ count_in Written (states_of map)
written_le map index span long h all =
    omega (arith, count_in_erased index span (states_of map) (rw (length-states_of map long) h) all)

-- ---- erase's checks and plan

-- what passes all of erase's checks
pub record EraseFits (image : List ℕ) (page : Page) (index span : ℕ) : Type 0 where
  pub whole : length image ≡ sector_size
  pub fit : fit_to_use page ≡ true
  pub some : 1 ≤ span
  pub spans : index + span ≤ entries_per_page
  pub written : all_written page.map index span ≡ true

pub erase_fits : (image : List ℕ) (page : Page) (index span : ℕ) → accepted (erase_checks image page index span) ≡ true
    → EraseFits image page index span
erase_fits image page index span h =
    let checks = erase_checks image page index span in
    let at : (n : ℕ) → (get_or checks n (false, Stopped)).0 ≡ false = λ n. accepted_at checks n h in
    let range = neither (eqb span 0) (ltb entries_per_page (index + span)) (at 3) in
    record {
      whole = eqb-true _ _ (not-false _ (at 0));
      fit = not-false _ (at 1);
      some = pos_of_ne-zero (eqb-false span 0 range.0);
      spans = ltb-false _ _ range.1;
      written = not-false _ (at 4);
    }

-- a map has at most eight units, and the new record has the marks
pub plan_erased : (page new : Page) (index span : ℕ) → new ≡ with_erased page index span → index + span ≤ entries_per_page
    → take 8 (map_units index span new.map) ≡ erase_plan page index span
unfolding erase_plan with_erased
plan_erased page new index span erased h =
    let marked = mark_range Erased index span page.map in
    rw erased (take_all 8 (map_units index span marked) (length-map_units_le index span marked h))
