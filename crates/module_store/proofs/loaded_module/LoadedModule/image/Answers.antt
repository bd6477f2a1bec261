use Rattle.std.proofs.Common.{subst}
use Rattle.initial_image.specs.Image.{IsImageOf}
use Rattle.pool_model.specs.Contents.{Named}
use Rattle.module_store.specs.Modules.{IsLoaded}
use Rattle.module_store.proofs.loaded_module.LoadedModule.image.Goals as goal

pub returns-clause-image : goal.returns-clause-image
returns-clause-image g c = subst (λ (n : Named). IsImageOf n.tree c.image.result.now) c.args.self.now.same c.image.ensures.image

pub returns-clause-loaded : goal.returns-clause-loaded
returns-clause-loaded g c = subst (λ (n : Named). IsLoaded g.N.Naming.config n.tree) c.args.self.now.same c.image.ensures.loaded
