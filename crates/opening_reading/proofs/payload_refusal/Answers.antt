-- `opening_reading::payload_refusal` meets its contract: past the test of its size the payload is one run of the image's bytes, and its CRC decides.
use Rattle.std.proofs.Common.{◌≡◌, sym, ap, ◌∙◌, true, not, cond, Some, None, List, ℕ, suc, ◌+◌, ◌-◌, ◌*◌, ◌<◌, ◌≤◌, eqb, take, drop, arith, add-one}
use borrow.Author.Tests.{le-ltb, eq-eqb, ne_eqb, not-false}
use Rattle.crc.specs.Crc.{crc32}
use Rattle.sector.specs.declared.Kind.{Kind}
use Rattle.sector.specs.Item.{crc_start}
use Rattle.sector.specs.Layout.{entry_size, entry_address, entries_of, span_of, size_of, stored_payload_crc}
use Rattle.sector.specs.Types.{kind_of}
use Rattle.opening_reading.specs.Reading.{PayloadCrcWrong, is_payload, covered, payload_refusal}
use Rattle.opening_reading.proofs.Entries.{take_joined}
use Rattle.opening_reading.proofs.payload_refusal.Goals as goal
use Rattle.opening_reading.proofs.payload_refusal.Goals.{After-number_at}

by_crc : (image entry : List ℕ) (index start size crc : ℕ) → 0 < span_of entry → index + span_of entry ≤ 126 → is_payload entry ≡ true
    → size ≡ size_of entry → size ≤ entry_size * covered entry → start ≡ entry_address (index + 1)
    → crc ≡ crc32 crc_start (take (start + size - start) (drop start image))
    → payload_refusal entry (take (covered entry) (drop (index + 1) (entries_of image)))
    ≡ cond (not (eqb crc (stored_payload_crc entry))) (Some PayloadCrcWrong) None
unfolding payload_refusal
by_crc image entry index start size crc spans fits payload sized room at made =
    let covers : suc index + covered entry ≤ 126 = omega arith in
    let within : size_of entry ≤ entry_size * covered entry = omega arith in
    let long : start + size - start ≡ size_of entry = omega arith in
    let bytes = take_joined image index (covered entry) (size_of entry) covers within in
    rw (payload, le-ltb (entry_size * covered entry) (size_of entry) within, add-one index, bytes, made, long, at, add-one index)

-- what both returns past the size's test share
decided : (c : After-number_at) → payload_refusal c.args.entry (take (covered c.args.entry) (drop (c.args.index + 1) (entries_of c.args.image.now)))
    ≡ cond (not (eqb c.crc32-crc.result c.number_at.result)) (Some PayloadCrcWrong) None
unfolding kind_of
decided c =
    let payload : is_payload c.args.entry ≡ true = sym (ap (λ (kind : Kind). kind.payload) c.kind_of.ensures) ∙ not-false _ c.if-not-kind_of.false in
    let size = c.size_of-size.ensures.0 in
    rw c.number_at.ensures
    (by_crc c.args.image.now c.args.entry c.args.index _ _ _ (omega arith) (omega arith) payload size (omega arith) c.entry_address-start.ensures c.crc32-crc.ensures)

pub returns-then-crc-number_at : goal.returns-then-crc-number_at
returns-then-crc-number_at c = rw (decided (goal.at.returns-then-crc-number_at c).After-number_at, ne_eqb _ _ c.if-crc-number_at.true)

pub returns : goal.returns
returns c = rw (decided (goal.at.returns c).After-number_at, eq-eqb _ _ c.if-crc-number_at.false)
