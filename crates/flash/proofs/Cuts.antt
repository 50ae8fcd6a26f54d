-- Laws of images between two, and of cuts of a plan (specs/Flash.antt).
--
-- In order: between two images; the parts of one between two, and those in which the two agree; the cuts of a plan, and of two plans one after the other.
-- So a proof about cuts goes by phases: a plan is parted, and of each part any image between its two ends is looked at.
use mathlib.Core.Path.{◌≡◌, refl, sym, ap, ap₂, ◌∙◌, subst}
use mathlib.Core.List.{List, [], ◌∷◌, ◌++◌}
use Prim.Native.Nat.{ℕ, zero, suc, ◌-◌, ◌≤◌, ◌<◌}
use native.Mathlib.Decide.{dec_le}
use native.Mathlib.Nat.{suc_inj}
use native.Mathlib.Numerals.{add-one}
use native.Mathlib.Omega.{arith}
use lib.Bits.{and_comm}
use lib.ListN.{length, take, drop, take-append-drop}
use lib.Seq.{take-add, take-append-le, take_all}
use Rattle.flash.proofs.Laws.{clears_refl, clears_trans, clears_run, run_append, run_budget}
use Rattle.flash.specs.Flash.{Unit4, run, OnlyClears, clears_nil, clears_cons, Between, CutAt, WholeUnitsCut, CutLiesBetween}

-- ---- between two images

clears_both : {xs ys : List ℕ} → OnlyClears xs ys → OnlyClears ys xs → ys ≡ xs
clears_both clears_nil clears_nil = refl
clears_both (clears_cons {y = x} {x = y} e o) (clears_cons f p) =
    ap₂ (λ (byte : ℕ) (bytes : List ℕ). byte ∷ bytes) (sym e ∙ and_comm x y ∙ f) (clears_both o p)

-- where nothing changes there is one image
pub between_same : {old mid : List ℕ} → Between old mid old → mid ≡ old
between_same b = clears_both b.begun b.left

-- the two ends are in between too
pub between_old : {old new : List ℕ} → OnlyClears old new → Between old old new
between_old {old} o = record { begun = clears_refl old; left = o }

pub between_new : {old new : List ℕ} → OnlyClears old new → Between old new new
between_new {new = new} o = record { begun = o; left = clears_refl new }

pub between_trans : {older old mid new newer : List ℕ} → OnlyClears older old → Between old mid new → OnlyClears new newer → Between older mid newer
between_trans o b p = record { begun = clears_trans o b.begun; left = clears_trans b.left p }

-- with both ends given by what they are
pub between_ends : {old old' mid new new' : List ℕ} → old ≡ old' → new ≡ new' → Between old mid new → Between old' mid new'
between_ends {mid = mid} e f b =
    record { begun = subst (λ (x : List ℕ). OnlyClears x mid) e b.begun; left = subst (λ (x : List ℕ). OnlyClears mid x) f b.left }

clears_take : {old new : List ℕ} (n : ℕ) → OnlyClears old new → OnlyClears (take n old) (take n new)
clears_take zero o = clears_nil
clears_take (suc n) clears_nil = clears_nil
clears_take (suc n) (clears_cons e o) = clears_cons e (clears_take n o)

-- so where they agree up to a byte, it agrees with them
pub between_front : {old mid new : List ℕ} (n : ℕ) → take n old ≡ take n new → Between old mid new → take n mid ≡ take n new
between_front n e b = between_same (between_ends e refl (record { begun = clears_take n b.begun; left = clears_take n b.left }))

-- ---- two parts of an image

-- an image between two is parted as they are, and each part lies between theirs
pub record Parted (old back new behind mid : List ℕ) : Type 0 where
  pub first : List ℕ
  pub rest : List ℕ
  pub split : mid ≡ first ++ rest
  pub first_between : Between old first new
  pub rest_between : Between back rest behind

pub between_append : (old new : List ℕ) {back behind mid : List ℕ} → length old ≡ length new → Between (old ++ back) mid (new ++ behind)
    → Parted old back new behind mid
between_append old new l b = go old new l b.begun b.left
  where
    go : (old new : List ℕ) {back behind mid : List ℕ} → length old ≡ length new → OnlyClears (old ++ back) mid → OnlyClears mid (new ++ behind)
        → Parted old back new behind mid
    go [] [] {mid = mid} l o p =
        record {
          first = [];
          rest = mid;
          split = refl;
          first_between = record { begun = clears_nil; left = clears_nil };
          rest_between = record { begun = o; left = p };
        }
    go [] (x ∷ new) l o p = absurd (omega arith)
    go (y ∷ old) [] l o p = absurd (omega arith)
    go (y ∷ old) (x ∷ new) l (clears_cons {x = m} e o) (clears_cons f p) =
        let parts = go old new (suc_inj l) o p in
        record {
          first = m ∷ parts.first;
          rest = parts.rest;
          split = ap (λ (bytes : List ℕ). m ∷ bytes) parts.split;
          first_between = record { begun = clears_cons e parts.first_between.begun; left = clears_cons f parts.first_between.left };
          rest_between = parts.rest_between;
        }

-- ---- a part in which the two images agree

-- an image between two that begin alike begins so, and the rest lies between theirs
pub record AfterFront (front back behind mid : List ℕ) : Type 0 where
  pub rest : List ℕ
  pub split : mid ≡ front ++ rest
  pub between : Between back rest behind

pub after_front : (front : List ℕ) {back behind mid : List ℕ} → Between (front ++ back) mid (front ++ behind) → AfterFront front back behind mid
after_front front b =
    let parts = between_append front front refl b in
    record {
      rest = parts.rest;
      split = parts.split ∙ ap (λ (first : List ℕ). first ++ parts.rest) (between_same parts.first_between);
      between = parts.rest_between;
    }

-- and one between two that end alike ends so
pub record BeforeBack (old new back mid : List ℕ) : Type 0 where
  pub first : List ℕ
  pub split : mid ≡ first ++ back
  pub between : Between old first new

pub before_back : (old new : List ℕ) {back mid : List ℕ} → length old ≡ length new → Between (old ++ back) mid (new ++ back) → BeforeBack old new back mid
before_back old new l b =
    let parts = between_append old new l b in
    record {
      first = parts.first;
      split = parts.split ∙ ap (λ (rest : List ℕ). parts.first ++ rest) (between_same parts.rest_between);
      between = parts.first_between;
    }

-- ---- cuts of a plan

clears_more : (us vs : List Unit4) (image : List ℕ) → OnlyClears (run us image) (run (us ++ vs) image)
clears_more us vs image = rw (run_append us vs image) (clears_run vs (run us image))

pub whole_units_cut : WholeUnitsCut
whole_units_cut plan image n =
    between_old
    (subst (λ (more : List Unit4). OnlyClears (run (take n plan) image) (run more image))
    (sym (ap (λ (m : ℕ). take m plan) (sym (add-one n)) ∙ take-add n 1 plan))
    (clears_more (take n plan) (take 1 (drop n plan)) image))

-- a cut lies between the image and the image with the plan done
pub cut_between : (plan : List Unit4) (image : List ℕ) (n : ℕ) {cut : List ℕ} → CutAt plan image n cut → Between image cut (run plan image)
cut_between plan image n c =
    between_trans (clears_run (take n plan) image) c
    (subst (λ (all : List Unit4). OnlyClears (run (take (suc n) plan) image) (run all image)) (take-append-drop (suc n) plan)
    (clears_more (take (suc n) plan) (drop (suc n) plan) image))

pub cut_lies_between : CutLiesBetween
cut_lies_between plan image n cut c = let b = cut_between plan image n c in (b.begun, b.left)

-- ---- cuts of two plans, one after the other

-- a cut of the first, or one of the second with the first done
pub data CutInto (us vs : List Unit4) (image : List ℕ) (n : ℕ) (cut : List ℕ) : Type 0 where
  of_first : n < length us → CutAt us image n cut → CutInto us vs image n cut
  of_second : length us ≤ n → CutAt vs (run us image) (n - length us) cut → CutInto us vs image n cut

module _ (us vs : List Unit4) (image : List ℕ) where
  withof_first : (n : ℕ) → n ≤ length us → run (take n (us ++ vs)) image ≡ run (take n us) image
  withof_first n h = ap (λ (plan : List Unit4). run plan image) (take-append-le n us vs h)

  after_first : (n : ℕ) → length us ≤ n → run (take n (us ++ vs)) image ≡ run (take (n - length us) vs) (run us image)
  after_first n h = run_budget n us vs image ∙ ap (λ (done : List Unit4). run (take (n - length us) vs) (run done image)) (take_all n us h)

  pub cut_append : (n : ℕ) {cut : List ℕ} → CutAt (us ++ vs) image n cut → CutInto us vs image n cut
  cut_append n {cut} c = by_order (dec_le (suc n) (length us))
    where
      by_order : Dec (n < length us) → CutInto us vs image n cut
      by_order (yes h) = of_first h (between_ends (withof_first n (omega arith)) (withof_first (suc n) h) c)
      by_order (no h) =
          let past : length us ≤ n = omega arith in
          let one_more : suc n - length us ≡ suc (n - length us) = omega arith in
          of_second past
          (between_ends (after_first n past)
          (after_first (suc n) (omega arith) ∙ ap (λ (m : ℕ). run (take m vs) (run us image)) one_more) c)

  -- up to the first plan's last unit: whole units alone
  pub whole_in_first : (n : ℕ) → n ≤ length us → Between image (run (take n (us ++ vs)) image) (run us image)
  whole_in_first n h =
      subst (λ (cut : List ℕ). Between image cut (run us image)) (sym (withof_first n h)) (cut_between us image n (whole_units_cut us image n))
