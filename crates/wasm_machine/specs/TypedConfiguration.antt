-- Configurations that are typed, and that fit their frames.
use Rattle.std.specs.Prelude.{◌≡◌, ℕ, ◌+◌, ◌<◌, ◌≤◌, List, [], ◌∷◌, ◌++◌, false, length, map, slice_get, Some}
use Rattle.wasm_types.specs.declared.types.ValType.{ValType}
use Rattle.wasm_types.specs.declared.module.Module.{Module}
use Rattle.wasm_types.specs.Tree.{Code, FunctionTree, function_tree, module_tree}
use Rattle.wasm_spec.specs.Typing.{Context, Typed, type_of, type_or_empty}
use Rattle.wasm_spec.specs.Need.{highest, deepest, need}
use Rattle.wasm_spec.specs.Store.{Store}
use Rattle.wasm_values.specs.declared.profile.Profile.TheVariants.{Three}
use Rattle.wasm_spec.specs.Validity.{IsSupported, IsValid}
use Rattle.wasm_types.specs.Sequences.{code_at}
use Rattle.wasm_validate.specs.Locals.{HaveNoEmptyRun}
use Rattle.machine_steps.specs.Configuration.{OpenBlock, Activation, Configuration}
use Rattle.wasm_machine.specs.Remaining.{function_of, body_type, results}
use Rattle.wasm_spec.specs.Bulk.{code_uses_bulk, uses_bulk}

-- the number of operands under these blocks
abbrev pub operand_count : List OpenBlock → ℕ
operand_count [] = 0
operand_count (o ∷ os) = operand_count os + length o.below

-- a valid module, whose functions fit a frame of this size and have no runs of no locals, over which a call would walk
pub record IsRunnable (m : Module) (frame : ℕ) : Type 0 where
  pub supported : IsSupported Three (module_tree m)
  pub valid : IsValid (module_tree m)
  pub needs : (x : ℕ) (f : FunctionTree) → slice_get (module_tree m).functions x ≡ Some f → need (module_tree m) f ≤ frame
  pub locals : HaveNoEmptyRun m

module _ (m : Module) (frame : ℕ) where
  abbrev pub local_types : ℕ → List ValType
  local_types x = (type_or_empty (body_type (module_tree m) x)).params ++ (function_tree (function_of m x)).locals

  -- the context of code inside these blocks of a function
  abbrev pub context : ℕ → List OpenBlock → Context
  context x os = record { defined = module_tree m; locals = local_types x; labels = map (λ o. o.label) os ++ results m x ∷ []; results = results m x }

  -- the types that the innermost block's end gives
  abbrev pub ends_of : ℕ → List OpenBlock → List ValType
  ends_of x [] = results m x
  ends_of x (o ∷ os) = o.ends

  -- code that takes these operands to the end of its block, and whose frame has room for what it needs; it copies and fills
  -- nothing in a module that doesn't
  pub record IsTypedCode (x : ℕ) (os : List OpenBlock) (code : Code) (ts : List ValType) : Type 0 where
    pub typed : Typed (context x os) code ts (ends_of x os)
    pub fits : length (local_types x) + highest (operand_count os) (context x os) code (length ts) + deepest (length os + 1) code ≤ frame
    pub narrow : uses_bulk (module_tree m) ≡ false → code_uses_bulk code ≡ false

  -- with these operands it can go on at this place
  abbrev pub IsTypedAt : (x : ℕ) (os : List OpenBlock) (ts : List ValType) (q place : ℕ) → Type 0
  IsTypedAt x os ts q place = IsTypedCode x os (code_at (function_of m x).body q place) ts

  -- a block can be left at its end, and by a branch to it
  pub record IsTypedBlock (x : ℕ) (os : List OpenBlock) (o : OpenBlock) : Type 0 where
    pub at_end : IsTypedAt x os (o.ends ++ map type_of o.below) o.sequence o.after
    pub at_branch : IsTypedAt x os (o.label ++ map type_of o.below) o.sequence o.target

  abbrev pub AreTypedBlocks : ℕ → List OpenBlock → Type 0
  AreTypedBlocks x [] = Unit {0}
  AreTypedBlocks x (o ∷ os) = IsTypedBlock x os o × AreTypedBlocks x os

  -- a caller can go on with results of these types
  pub record IsTypedActivation (types : List ValType) (c : Activation) : Type 0 where
    pub resumes : IsTypedAt c.function c.blocks (types ++ map type_of c.below) c.sequence c.after
    pub blocks : AreTypedBlocks c.function c.blocks
    pub locals : map type_of c.locals ≡ local_types c.function
    pub there : c.function < length m.functions

  abbrev pub AreTypedActivations : ℕ → List Activation → Type 0
  AreTypedActivations x [] = Unit {0}
  AreTypedActivations x (c ∷ cs) = IsTypedActivation (results m x) c × AreTypedActivations c.function cs

  -- what surrounds the current sequence
  pub record IsTypedContext (depth : ℕ) (k : Configuration) : Type 0 where
    pub locals : map type_of k.locals ≡ local_types k.function
    pub blocks : AreTypedBlocks k.function k.blocks
    pub activations : AreTypedActivations k.function k.activations
    pub deep : length k.activations + 1 ≤ depth
    pub there : k.function < length m.functions

  pub record IsTypedConfiguration (depth : ℕ) (k : Configuration) : Type 0 where
    pub here : IsTypedAt k.function k.blocks (map type_of k.operands) k.sequence k.place
    pub around : IsTypedContext depth k

-- globals of their types, and a table of functions that are there
pub record IsTypedStore (m : Module) (store : Store) : Type 0 where
  pub globals : map type_of store.globals ≡ map (λ g. g.global_type.value) (module_tree m).globals
  pub table : (i x : ℕ) → slice_get store.table i ≡ Some (Some x) → x < length m.imports + length m.functions
