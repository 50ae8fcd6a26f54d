-- `nvs_entry_state` meets its contract: a wrong size changes nothing, else the call's answer is laid out.
use mathlib.Core.Path.{◌≡◌, refl, ap, ◌∙◌}
use borrow.Author.Rules.{rules}
use mathlib.Core.List.{List}
use Prim.Native.Nat.{ℕ}
use Rattle.sector.specs.Map.{bits_of, entry_state}
use Rattle.std.specs.Prelude.{Err, IsOkAnd, MatchResult}
use Rattle.sector.specs.Answers.{value_where_done}
use Rattle.boundary.specs.Boundary.{state_given}
use Rattle.boundary.proofs.Laws.{wrong_size_lem, right_size, number_given, bits_given, state_none}
use Rattle.boundary.proofs.reading.nvs_entry_state.Goals as goal

pub returns-then-buffer-ne-ANSWER_SIZE : goal.returns-then-buffer-ne-ANSWER_SIZE
unfolding state_given
returns-then-buffer-ne-ANSWER_SIZE c =
    rw (wrong_size_lem 57 _ c.if-buffer-ne-ANSWER_SIZE.true) (record {
      number = refl;
      buffer = refl;
    })

pub returns-then-bytes-ne-MAP_SIZE : goal.returns-then-bytes-ne-MAP_SIZE
unfolding state_given
returns-then-bytes-ne-MAP_SIZE c =
    rw (right_size 57 _ c.if-buffer-ne-ANSWER_SIZE.false, wrong_size_lem 32 _ c.if-bytes-ne-MAP_SIZE.true) (record {
      number = refl;
      buffer = refl;
    })

pub returns : goal.returns
unfolding state_given
returns c =
    let index = c.args.index in
    let state = c.get_entry_state-state.ensures
    ∙ ap (λ (map : List ℕ). value_where_done (entry_state map index).answer (entry_state map index).state) c.array_of.ensures in
    let cases : MatchResult c.get_entry_state-state.result (λ s. IsOkAnd c.map.result (λ n. n ≡ bits_of s)) (λ refused. c.map.result ≡ Err refused) = search rules in
    let bits = bits_given _ _ _ _ state cases in
    rw (right_size 57 _ c.if-buffer-ne-ANSWER_SIZE.false, right_size 32 _ c.if-bytes-ne-MAP_SIZE.false)
    (let both = number_given _ _ bits (state_none c.args.bytes.now index) (c.give_number.ensures.number, c.give_number.ensures.buffer) in
    record { number = both.0; buffer = both.1 })
