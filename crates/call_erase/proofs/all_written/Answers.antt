-- `call_erase::all_written` meets its contract: at each turn the entries from i on are all Written exactly where all of them are.
use mathlib.Core.Path.{◌≡◌, sym, ap, ◌∙◌}
use mathlib.Core.Bool.{Bool, ◌&&◌}
use Prim.Native.Nat.{ℕ, ◌+◌, ◌-◌}
use native.Mathlib.Omega.{arith}
use borrow.Author.Rules.{rules}
use lib.ListN.{take, drop}
use Rattle.flash.specs.Flash.{every}
use Rattle.sector.specs.declared.EntryMapState.TheVariants.{Written}
use Rattle.sector.specs.Map.{states_of, same_state}
use Rattle.call_erase.specs.Erase.{all_written}
use Rattle.call_erase.proofs.Laws.{written_next}
use Rattle.call_erase.proofs.all_written.Goals as goal

pub loop-i-init : goal.loop-i-init
loop-i-init c =
    let args = c.args in
    let all : args.index + args.span - args.index ≡ args.span = omega arith in
    (omega arith, search rules, ap (λ (n : ℕ). every (same_state Written) (take n (drop args.index (states_of args.map)))) all)

pub returns-then-not-is_written : goal.returns-then-not-is_written
returns-then-not-is_written c =
    let i : ℕ = c.loop-i.i in
    let behind : Bool = every (same_state Written) (take (c.args.index + c.args.span - (i + 1)) (drop (i + 1) (states_of c.args.map))) in
    let turn : all_written c.args.map c.args.index c.args.span ≡ (c.is_written.result && behind) = sym c.loop-i.invariant.2
    ∙ written_next c.args.map i (c.args.index + c.args.span) (omega arith) (omega arith) (omega arith)
    ∙ ap (λ (here : Bool). here && behind) (sym (c.is_written.ensures ∙ ap (same_state Written) c.state_at.ensures)) in
    sym (turn ∙ ap (λ (here : Bool). here && behind) (c.if-not-is_written.true))

pub loop-i-preserved : goal.loop-i-preserved
loop-i-preserved c =
    let i : ℕ = c.loop-i.i in
    let behind : Bool = every (same_state Written) (take (c.args.index + c.args.span - (i + 1)) (drop (i + 1) (states_of c.args.map))) in
    let turn : all_written c.args.map c.args.index c.args.span ≡ (c.is_written.result && behind) = sym c.loop-i.invariant.2
    ∙ written_next c.args.map i (c.args.index + c.args.span) (omega arith) (omega arith) (omega arith)
    ∙ ap (λ (here : Bool). here && behind) (sym (c.is_written.ensures ∙ ap (same_state Written) c.state_at.ensures)) in (
      omega arith,
      search rules,
      sym (turn ∙ ap (λ (here : Bool). here && behind) (c.if-not-is_written.false)),
    )

pub returns : goal.returns
returns c =
    let i = c.loop-i.i in
    let none : c.args.index + c.args.span - i ≡ 0 = omega arith in
    sym (ap (λ (n : ℕ). every (same_state Written) (take n (drop i (states_of c.args.map)))) none) ∙ c.loop-i.invariant.2
