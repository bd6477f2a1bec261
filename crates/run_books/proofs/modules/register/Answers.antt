use Rattle.run_books.specs.Lines.{limits_in}
use Rattle.run_books.proofs.EntryLemmas.{desk_kept, entry_of_loaded, tag_taken}
use Rattle.run_books.proofs.modules.register.Goals as goal

pub returns-clause-entry : goal.returns-clause-entry
returns-clause-entry g c =
    entry_of_loaded (limits_in c.args.profile g.N.Naming.config) c.args.bytes.now c.register.result c.entry_of.result c.register.ensures.loaded c.register.ensures.refused c.entry_of.ensures

pub returns-clause-tag : goal.returns-clause-tag
returns-clause-tag g c = tag_taken _ _ c.register.result c.entry_of.result c.register.ensures.tag (desk_kept _ _ c.register.result c.register.ensures.desk) c.entry_of.ensures
