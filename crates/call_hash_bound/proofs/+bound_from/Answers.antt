-- `call_hash_bound::bound_from` meets its contract: each turn is the definition's at its index, and the entries left are fewer at the next.
use mathlib.Core.Path.{◌≡◌, sym, ap, ap₂, ◌∙◌}
use mathlib.Core.Bool.{Bool}
use mathlib.Core.List.{List, []}
use Prim.Native.Nat.{ℕ, ◌+◌, ◌-◌, ◌<◌}
use native.Mathlib.Omega.{arith}
use lib.ListN.{length, get_or, drop, length-drop}
use Rattle.sector.specs.declared.EntryMapState.{EntryMapState}
use Rattle.sector.specs.declared.EntryMapState.TheVariants.{Empty, Written}
use Rattle.sector.specs.Map.{state_at, states_of, same_state}
use Rattle.sector.proofs.Laws.{length-states_of, get_d_states_of}
use Rattle.call_hash_bound.specs.Bound.{bound_from}
use Rattle.call_hash_bound.proofs.Laws.{bound_other, bound_written, count_of_le, bound_le}
use Rattle.call_hash_bound.proofs.+bound_from.Goals as goal

-- the state that was read is the definition's
state_read : (map : List ℕ) (index : ℕ) {state : EntryMapState} {written : Bool} → length map ≡ 32 → index < 126
    → state ≡ state_at map index → written ≡ same_state Written state
    → same_state Written (get_or (states_of map) index Empty) ≡ written
state_read map index long inside s w =
    ap (same_state Written) (get_d_states_of map index long inside ∙ sym s) ∙ sym w

pub returns-then-index-ge-ENTRIES_PER_PAGE : goal.returns-then-index-ge-ENTRIES_PER_PAGE
returns-then-index-ge-ENTRIES_PER_PAGE t c =
    let i = c.args.index in
    let long_states = length-states_of c.args.map c.well_formed.0.1.0.1 in
    let none = bound_le 0 (drop i (states_of c.args.map)) (drop i c.args.entries) in
    omega (arith, length-drop i (states_of c.args.map), long_states)

pub returns-then-not-is_written : goal.returns-then-not-is_written
returns-then-not-is_written t c =
    let states = states_of c.args.map in
    let long_states = length-states_of c.args.map c.well_formed.0.1.0.1 in
    let long_entries : length c.args.entries ≡ 126 = c.well_formed.1.0.1.0.1 in
    let read = state_read c.args.map c.args.index c.well_formed.0.1.0.1 c.if-index-ge-ENTRIES_PER_PAGE.false c.state_at.ensures c.is_written.ensures in
    c.bound_from.ensures
    ∙ sym (bound_other states c.args.entries c.args.index (omega arith) (omega arith) (read ∙ c.if-not-is_written.true))

pub overflow_add-result : goal.overflow_add-result
overflow_add-result t c =
    let next = c.args.index + 1 + c.passed_behind-passed.result in
    let long_states = length-states_of c.args.map c.well_formed.0.1.0.1 in
    omega (
      arith,
      count_of_le (get_or c.args.entries c.args.index []),
      bound_le 0 (drop next (states_of c.args.map)) (drop next c.args.entries),
      length-drop next (states_of c.args.map),
      long_states,
    )

pub returns : goal.returns
returns t c =
    let states = states_of c.args.map in
    let entries = c.args.entries in
    let i = c.args.index in
    let long_states = length-states_of c.args.map c.well_formed.0.1.0.1 in
    let long_entries : length entries ≡ 126 = c.well_formed.1.0.1.0.1 in
    let rest : length (drop (i + 1) entries) ≡ 125 - i = rw (length-drop (i + 1) entries) (omega arith) in
    let walk : ℕ → ℕ = λ passed. bound_from 0 (drop (i + 1 + passed) states) (drop (i + 1 + passed) entries) in
    let read = state_read c.args.map i c.well_formed.0.1.0.1 c.if-index-ge-ENTRIES_PER_PAGE.false c.state_at.ensures c.is_written.ensures in
    ap₂ ◌+◌ c.count_of-count.ensures
    (c.bound_from-2.ensures ∙ ap walk (c.passed_behind-passed.ensures.0 (drop (i + 1) entries) rest))
    ∙ sym (bound_written states entries i (omega arith) (omega arith) (read ∙ c.if-not-is_written.false))
