-- `get_entry_statistics` meets its contract: each count is the sum over the map's four words, the last of which has 30 entries.
use mathlib.Core.Path.{sym}
use native.Mathlib.Omega.{arith}
use Rattle.sector_map.specs.Words.{entry_mask}
use Rattle.sector_map.proofs.Words.{statistics_words}
use Rattle.sector_map.proofs.get_entry_statistics.Goals as goal

pub returns : goal.returns
unfolding entry_mask
returns c =
    rw (
      c.add-3.ensures,
      c.add-2.ensures,
      c.add.ensures,
      c.word_statistics-first.ensures,
      c.word_statistics-second.ensures,
      c.word_statistics-third.ensures,
      c.word_statistics-last.ensures,
    )
    (sym
    (statistics_words c.args.map (omega arith) c.word_at.result c.word_at-2.result c.word_at-3.result c.word_at-4.result c.word_at.ensures.entries
    c.word_at-2.ensures.entries c.word_at-3.ensures.entries c.word_at-4.ensures.entries))
