-- `nvs_hash_bound` meets its contract: a wrong size changes nothing, else the call's answer is laid out.
use mathlib.Core.Path.{refl, ap, ap₂, ◌∙◌}
use borrow.Author.Rules.{rules}
use Prim.Native.Nat.{ℕ}
use Rattle.call_hash_bound.specs.Bound.{hash_bound}
use Rattle.boundary_encoding.specs.Encoding.{answer_bytes, zero_item, no_counts}
use Rattle.boundary.specs.Boundary.{bound_given}
use Rattle.boundary.proofs.Laws.{wrong_size_lem, right_size}
use Rattle.boundary.proofs.reading.nvs_hash_bound.Goals as goal

pub returns-then-buffer-ne-ANSWER_SIZE : goal.returns-then-buffer-ne-ANSWER_SIZE
unfolding bound_given
returns-then-buffer-ne-ANSWER_SIZE c =
    rw (wrong_size_lem 57 _ c.if-buffer-ne-ANSWER_SIZE.true) (record {
      number = refl;
      buffer = refl;
    })

pub returns-then-bytes-ne-MAP_SIZE : goal.returns-then-bytes-ne-MAP_SIZE
unfolding bound_given
returns-then-bytes-ne-MAP_SIZE c =
    rw (right_size 57 _ c.if-buffer-ne-ANSWER_SIZE.false, wrong_size_lem 32 _ c.if-bytes-ne-MAP_SIZE.true) (record {
      number = refl;
      buffer = refl;
    })

pub returns-then-entries-ne-ENTRIES_SIZE : goal.returns-then-entries-ne-ENTRIES_SIZE
unfolding bound_given
returns-then-entries-ne-ENTRIES_SIZE c =
    rw (right_size 57 _ c.if-buffer-ne-ANSWER_SIZE.false, right_size 32 _ c.if-bytes-ne-MAP_SIZE.false, wrong_size_lem 4032 _ c.if-entries-ne-ENTRIES_SIZE.true) (record {
      number = refl;
      buffer = refl;
    })

pub returns : goal.returns
unfolding bound_given
returns c =
    rw (right_size 57 _ c.if-buffer-ne-ANSWER_SIZE.false, right_size 32 _ c.if-bytes-ne-MAP_SIZE.false, right_size 4032 _ c.if-entries-ne-ENTRIES_SIZE.false) (record {
      number = c.give_number.ensures.number;
      buffer = c.give_number.ensures.buffer
          ∙ ap (λ (value : ℕ). answer_bytes 0 value zero_item no_counts)
          (c.hashed_item_bound-count.ensures ∙ ap₂ hash_bound c.array_of.ensures c.entries_of.ensures);
    })
