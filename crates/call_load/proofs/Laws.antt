-- Laws of the readings: what a call answers by its checks, and what the checks leave known.
use mathlib.Core.Path.{◌≡◌, refl, sym, ap, ◌∙◌}
use mathlib.Core.Bool.{true, false}
use mathlib.Core.List.{List, [], ◌∷◌, ◌++◌}
use Prim.Native.Nat.{ℕ, ◌<◌}
use lib.ListN.{length, get_or}
use borrow.Author.Tests.{ltb-true, eqb-true, not-false}
use Rattle.std.specs.Prelude.{Result, Ok, Err, is_ok}
use Rattle.sector.specs.declared.Refusal.{Refusal}
use Rattle.sector.specs.declared.Refusal.TheVariants.{Stopped}
use Rattle.sector.specs.Answers.{Answer, Check, refusal, accepted, value_where_done}
use Rattle.sector.specs.Layout.{sector_size, entries_per_page}
use Rattle.sector.proofs.Laws.{accepted_at, accepted_done, accepted_refused, refusal_refused, refusal_passed}
use Rattle.call_load.specs.Load.{entry_checks, load_checks, loaded_or}

-- ---- what a call answers

-- the item, or the first refusal
abbrev pub read : List Check → List ℕ → Result (List ℕ) Refusal
read checks item = value_where_done (loaded_or checks item).answer (loaded_or checks item).item

read_answer : (checks : List Check) (item : List ℕ) → read checks item ≡ value_where_done (refusal checks) item
read_answer [] item = refl
read_answer ((true, refused) ∷ checks) item = refl
read_answer ((false, refused) ∷ checks) item = read_answer checks item

-- where the first checks refuse
pub read_refused : (xs ys : List Check) (item : List ℕ) {answer : Answer} {refused : Refusal} {result : Result (List ℕ) Refusal}
    → answer ≡ refusal xs → answer ≡ Err refused → result ≡ Err refused → result ≡ read (xs ++ ys) item
read_refused xs ys item e a r =
    let first = refusal_refused xs ys (accepted_refused xs e (ap is_ok a)) e in
    r ∙ ap (λ (answer : Answer). value_where_done answer item) (sym a ∙ first) ∙ sym (read_answer (xs ++ ys) item)

-- where they do not, by the others
pub read_passed : (xs ys : List Check) (item : List ℕ) {answer : Answer} {result : Result (List ℕ) Refusal}
    → answer ≡ refusal xs → is_ok answer ≡ true → result ≡ value_where_done (refusal ys) item → result ≡ read (xs ++ ys) item
read_passed xs ys item e passed r =
    r ∙ ap (λ (answer : Answer). value_where_done answer item) (refusal_passed xs ys (accepted_done xs e passed) refl) ∙ sym (read_answer (xs ++ ys) item)

-- an item in hand passed all checks, and is the one read
pub record Reads (checks : List Check) (entry item : List ℕ) : Type 0 where
  pub passed : accepted checks ≡ true
  pub same : item ≡ entry

pub read_item : (checks : List Check) (entry : List ℕ) {item : List ℕ} → Ok item ≡ read checks entry → Reads checks entry item
read_item [] entry e = record { passed = refl; same = cc }
read_item ((true, refused) ∷ checks) entry e = absurd cc
read_item ((false, refused) ∷ checks) entry e =
    let rest = read_item checks entry e in
    record { passed = rest.passed; same = rest.same }

-- a refusal in hand is the first of the checks
pub read_refusal : (checks : List Check) (entry : List ℕ) {refused : Refusal} → Err refused ≡ read checks entry → Err refused ≡ refusal checks
read_refusal [] entry e = absurd cc
read_refusal ((true, refused) ∷ checks) entry e = cc
read_refusal ((false, refused) ∷ checks) entry e = read_refusal checks entry e

-- ---- what passes the checks

-- raw read's
pub entry_fits : (image : List ℕ) (i : ℕ) → accepted (entry_checks image i) ≡ true
    → (length image ≡ sector_size) × (i < entries_per_page)
entry_fits image i h =
    let at : (n : ℕ) → (get_or (entry_checks image i) n (false, Stopped)).0 ≡ false = λ n. accepted_at (entry_checks image i) n h in
    (eqb-true _ _ (not-false _ (at 0)), ltb-true _ _ (not-false _ (at 1)))

-- load's
pub load_fits : (image : List ℕ) (i : ℕ) → accepted (load_checks image i) ≡ true
    → (length image ≡ sector_size) × (i < entries_per_page)
load_fits image i h =
    let at : (n : ℕ) → (get_or (load_checks image i) n (false, Stopped)).0 ≡ false = λ n. accepted_at (load_checks image i) n h in
    (eqb-true _ _ (not-false _ (at 0)), ltb-true _ _ (not-false _ (at 1)))
