-- What lies in a store.
use Rattle.std.specs.Prelude.{◌≡◌, ◌<◌, ℕ, List, Ok}
use Rattle.wasm_values.specs.declared.profile.Profile.{Profile}
use Rattle.wasm_types.specs.Tree.{ModuleTree, module_tree}
use Rattle.wasm_spec.specs.Loading.{Loads}
use Rattle.initial_image.specs.Image.{IsImageOf}
use Rattle.pool_limits.specs.declared.numbers.Numbers.{Numbers}
use Rattle.pool_limits.specs.Limits.{load_limits}
use Rattle.pool_model.specs.Contents.{Named}
use Rattle.module_store.specs.declared.desk.TheConstants.{MOST_MODULES}
use Rattle.module_store.specs.declared.reference.Stored.{Stored}

-- loading gives the module from some bytes in some profile under the limits
pub record IsLoaded (config : Numbers) (tree : ModuleTree) : Type 0 where
  pub profile : Profile
  pub bytes : List ℕ
  pub loads : Loads profile bytes (load_limits config) (Ok tree)

-- a loaded module with its image, under this tag, in a store that may have so many modules
pub record IsKeptModule (config : Numbers) (most tag : ℕ) (s : Stored) : Type 0 where
  pub tag_is : s.tag ≡ tag
  pub within : tag < most
  pub small : tag < MOST_MODULES
  pub loaded : IsLoaded config (module_tree s.valid)
  pub image : IsImageOf (module_tree s.valid) s.image

-- what lies in a store for this module: its code, which loading gave, and its image
pub record IsFound (config : Numbers) (m : Named) (s : Stored) : Type 0 where
  pub code : s.valid ≡ m.code
  pub tree : module_tree s.valid ≡ m.tree
  pub loaded : IsLoaded config m.tree
  pub image : IsImageOf m.tree s.image
