-- Any two results that a public call's contract allows are equal (01, 'What the contracts have to say'): what that says, and the call of this crate.
use mathlib.Core.Path.{◌≡◌, sym, ◌∙◌}
use mathlib.Core.List.{List}
use Prim.Native.Nat.{ℕ}
use borrow.Fn.Kinds.{ParamKind, ResultKind, Dens, Out, res_t, ended_of}
use contract.Lifetimes.{Lfts}
use denote.Triple.Clauses.{AtExit}
use Rattle.crc.proofs.crc32.Kinds as crc32_kinds
use Rattle.crc.proofs.crc32.Reads as crc32

-- of the same arguments, two results that a contract allows are equal
abbrev pub OneResult : (n : ℕ) (ps : List (ParamKind n)) (r : ResultKind n) → Out n ps r → Type 0
OneResult n ps r contract =
    (κs : Lfts n) (args : Dens κs ps) (x y : (res_t r κs).Denot) (ex ey : AtExit (ended_of n ps r) κs)
    → contract κs args x ex → contract κs args y ey → x ≡ y

-- of the same arguments, two results are equal, and so is what they leave in what was lent
abbrev pub OneOutcome : {B : Type 0} (n : ℕ) (ps : List (ParamKind n)) (r : ResultKind n) → ((κs : Lfts n) → AtExit (ended_of n ps r) κs → B) → Out n ps r → Type 0
OneOutcome n ps r left contract =
    (κs : Lfts n) (args : Dens κs ps) (x y : (res_t r κs).Denot) (ex ey : AtExit (ended_of n ps r) κs)
    → contract κs args x ex → contract κs args y ey → (x ≡ y) × (left κs ex ≡ left κs ey)

-- a contract that is an equation allows one result
pub unique : {A : Type 0} {spec x y : A} → x ≡ spec → y ≡ spec → x ≡ y
unique p q = p ∙ sym q

-- of two things that were lent
pub both_unique : {A B : Type 0} {a c : A} {b d : B} → a ≡ c → b ≡ d → ◌≡◌ {A = A × B} (a, b) (c, d)
both_unique e f = cc

pub crc32_unique : OneResult 1 crc32_kinds.ps crc32_kinds.r crc32.Learnt
crc32_unique κs args x y ex ey p q = unique p q
