use Rattle.std.proofs.Common.{ap, subst, ◌∙◌}
use Rattle.pool_model.specs.Contents.{Named}
use Rattle.module_store.specs.Modules.{IsLoaded}
use Rattle.module_store.proofs.loaded_module.LoadedModule.valid.Goals as goal

pub returns-clause-code : goal.returns-clause-code
returns-clause-code g c = c.valid.ensures.code ∙ ap (λ (n : Named). n.code) c.args.self.now.same

pub returns-clause-tree : goal.returns-clause-tree
returns-clause-tree g c = c.valid.ensures.tree ∙ ap (λ (n : Named). n.tree) c.args.self.now.same

pub returns-clause-loaded : goal.returns-clause-loaded
returns-clause-loaded g c = subst (λ (n : Named). IsLoaded g.N.Naming.config n.tree) c.args.self.now.same c.valid.ensures.loaded
