-- `named_byte` meets its contract: the arm of a long name gives the word.
use Rattle.std.proofs.Common.{rules, ◌≡◌, codes, arith}
use Rattle.std.proofs.lemmas.Slice.Eq.{text_from_reads}
use Rattle.cuts_request.proofs.named_byte.Goals as goal

pub returns-in-BlobData : goal.returns-in-BlobData
returns-in-BlobData c =
    let word : c.args.text.now ≡ codes "BlobData" = text_from_reads _ _ (omega arith) (search rules) in rw word

pub returns-in-BlobIndex : goal.returns-in-BlobIndex
returns-in-BlobIndex c =
    let word : c.args.text.now ≡ codes "BlobIndex" = text_from_reads _ _ (omega arith) (search rules) in rw word
