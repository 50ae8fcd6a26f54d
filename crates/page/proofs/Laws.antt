-- Laws of the record: tests of a list's places one by one, one place more in use, and fitness clause by clause.
use mathlib.Core.Path.{◌≡◌, sym, ap, ◌∙◌}
use mathlib.Core.Bool.{Bool, true, false, and-eq-true_iff}
use mathlib.Core.List.{List, [], ◌∷◌, ◌++◌, append_assoc}
use Prim.Native.Nat.{ℕ, suc, ◌+◌, ◌-◌, ◌≤◌, ◌<◌}
use native.Mathlib.Numerals.{add-one}
use native.Mathlib.Omega.{arith}
use lib.ListN.{length, get_or, drop, set, replicate, length-append}
use lib.Seq.{set-append_seam}
use borrow.Author.Tests.{le-leb, leb-true}
use Rattle.flash.specs.Flash.{every}
use Rattle.flash.proofs.Laws.{every_drop}
use Rattle.sector.specs.declared.EntryMapState.TheVariants.{Written}
use Rattle.sector.specs.Layout.{entries_per_page}
use Rattle.sector.specs.Map.{states_of, count_in}
use Rattle.page.specs.declared.Listed.{Listed}
use Rattle.page.specs.Record.{Page, next_free, no_item, padded, place_fits, place_zero, in_use, counts_fit, length_fits, written_fits, listed_fit, behind_zero, blank_fits, fit_to_use}

-- ---- every

module _ {A : Type 0} (test : A → Bool) (xs : List A) (k : ℕ) (d : A) (inside : k < length xs) where
  -- one that holds is passed
  pub every_drop_true : test (get_or xs k d) ≡ true → every test (drop k xs) ≡ every test (drop (k + 1) xs)
  every_drop_true h = rw (add-one k, every_drop test xs k d inside, h)

  -- one that fails decides
  pub every_drop_false : test (get_or xs k d) ≡ false → every test (drop k xs) ≡ false
  every_drop_false h = rw (every_drop test xs k d inside, h)

-- ---- the list

-- one place more in use
pub padded_more : (places : List Listed) (place : Listed) → length places < 126 → set (padded places) (length places) place ≡ padded (places ++ (place ∷ []))
padded_more places place h =
    let gap : 126 - length places ≡ suc (126 - length (places ++ (place ∷ []))) = omega (arith, length-append places (place ∷ [])) in
    let rest = replicate (126 - length (places ++ (place ∷ []))) no_item in
    ap (λ (n : ℕ). set (places ++ replicate n no_item) (length places) place) gap
    ∙ set-append_seam places no_item rest place
    ∙ sym (append_assoc places (place ∷ []) rest)

-- ---- fitness

-- a record that is fit to use, clause by clause
pub record Fit (page : Page) : Type 0 where
  pub counts : next_free page ≤ entries_per_page
  pub len_fits : page.len ≤ next_free page
  pub written_fits_lem : count_in Written (states_of page.map) ≤ page.used
  pub listed_fit_lem : every place_fits (in_use page) ≡ true
  pub behind_zero_lem : every place_zero (drop page.len page.list) ≡ true
  pub blank_fits_lem : blank_fits page ≡ true

pub fit_clauses : (page : Page) → fit_to_use page ≡ true → Fit page
unfolding fit_to_use
fit_clauses page h =
    let counts = (and-eq-true_iff (counts_fit page) _).0 h in
    let len = (and-eq-true_iff (length_fits page) _).0 counts.1 in
    let written = (and-eq-true_iff (written_fits page) _).0 len.1 in
    let listed = (and-eq-true_iff (listed_fit page) _).0 written.1 in
    let behind = (and-eq-true_iff (behind_zero page) _).0 listed.1 in
    record {
      counts = leb-true _ _ counts.0;
      len_fits = leb-true _ _ len.0;
      written_fits_lem = leb-true _ _ written.0;
      listed_fit_lem = listed.0;
      behind_zero_lem = behind.0;
      blank_fits_lem = behind.1;
    }

pub fit_of : (page : Page) → Fit page → fit_to_use page ≡ true
unfolding fit_to_use
fit_of page fit =
    rw (
      le-leb (next_free page) entries_per_page fit.counts,
      le-leb page.len (next_free page) fit.len_fits,
      le-leb (count_in Written (states_of page.map)) page.used fit.written_fits_lem,
      fit.listed_fit_lem,
      fit.behind_zero_lem,
    )
    fit.blank_fits_lem
