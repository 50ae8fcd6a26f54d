-- `call_hash_bound::passed_behind` meets its contract: each `return` is the first test of `passed_behind` that fails, or none.
use borrow.Author.Rules.{rules}
use borrow.Author.Tests.{le-leb, lt-leb}
use Rattle.call_hash_bound.proofs.passed_behind.Goals as goal

pub returns-then-span-lt1 : goal.returns-then-span-lt1
returns-then-span-lt1 c =
    (λ rest e. rw (lt-leb _ _ c.if-span-lt1.true), search rules)

pub returns-then-span-left : goal.returns-then-span-left
returns-then-span-left c =
    (λ rest e. rw (le-leb _ _ c.if-span-lt1.false, e, lt-leb _ _ c.if-span-left.true), search rules)

pub returns : goal.returns
returns c =
    (λ rest e. rw (le-leb _ _ c.if-span-lt1.false, e, le-leb _ _ c.if-span-left.false), search rules)
