-- `crc::crc32` meets its contract: the blocks, the words and the bytes that are left make up all bytes, and NOT stands before and after them.
use Rattle.std.proofs.Common.{◌≡◌, ap, ◌/◌, length, rules}
use Rattle.std.proofs.lemmas.Iterator.{YieldsList-from_slice}
use Rattle.std.proofs.lemmas.Iterator.Consumers.{fold_from_yields_List}
use Rattle.std.specs.List.{fold}
use Rattle.crc.specs.Crc.{intake, register, not32, crc32}
use Rattle.crc.proofs.Laws.{register_chunks, fold_intake}
use Rattle.crc.proofs.crc32.Goals as goal

pub returns : goal.returns
unfolding crc32
returns c =
    let bytes = c.args.bytes.now in
    let start = not32 c.args.start in
    let blocks = c.as_chunks.result.0.now in
    let tail = c.as_chunks.result.1.now in
    let words = c.as_chunks-2.result.0.now in
    let last = c.as_chunks-2.result.1.now in
    let after_blocks = c.fold-after_blocks.result in
    let after_words = c.fold-after_words.result in
    let by_blocks : after_blocks ≡ fold register start blocks =
    fold_from_yields_List _ register _ _ c.fold-after_blocks.ensures.ran (YieldsList-from_slice blocks (cc)) (λ a x b q k. search rules)
    in
    let by_words : after_words ≡ fold register after_blocks words =
    fold_from_yields_List _ register _ _ c.fold-after_words.ensures.ran (YieldsList-from_slice words (cc)) (λ a x b q k. search rules)
    in
    let by_bytes : c.fold.result ≡ fold intake after_words last =
    fold_from_yields_List _ intake _ _ c.fold.ensures.ran (YieldsList-from_slice last (cc)) (λ a x b q k. search rules)
    in
    let all : c.fold.result ≡ register start bytes =
    cc (fold_intake after_words last, register_chunks 4 (length tail / 4) after_blocks tail, register_chunks 8 (length bytes / 8) start bytes)
    in
    ap not32 all
