-- Tables of loaded modules.
use Rattle.std.proofs.Common.{◌≡◌, ◌≤◌, ℕ, true, false, List, ◌++◌, length, take, drop, refl, sym, ap, ◌∙◌, subst, arith, length-append}
use Rattle.std.proofs.lemmas.Bool.{cond-true, cond-false, eq-eqb}
use Rattle.std.proofs.lemmas.List.{length-drop, take_at}
use Rattle.std.specs.Prelude.{Option, Some, None}
use Rattle.wasm_spec.specs.Store.{fresh_store, table_size}
use Rattle.wasm_spec.proofs.ResultLaws.{length-fresh_table}
use Rattle.pool_model.specs.declared.kinds.Kind.TheVariants.{Table}
use Rattle.pool_model.specs.Contents.{Named, TableContents, belongs_to, prepared, table_image, IsTableOf}
use Rattle.pool_limits.specs.declared.numbers.Numbers.{Numbers}
use Rattle.pool_limits.specs.Limits.{load_limits}
use Rattle.wasm_spec.specs.Within.{IsWithin}
use Rattle.table_slots.specs.Kept.{IsKeptTable}

-- the module's table, written over the first entries
pub write_kept : (config : Numbers) (m : Named) (count : ℕ) (old new : List (Option ℕ)) → IsWithin (load_limits config) m.tree → count ≡ table_size m.tree → length old ≤ config.elements → count ≤ length old
    → new ≡ (fresh_store m.tree).table ++ drop count old → (holds : Option Named) → holds ≡ Some m → IsKeptTable config new count holds
write_kept config m count old new within size room fits written holds owner =
    let table : List (Option ℕ) = (fresh_store m.tree).table in
    let whole : length table ≡ count = length-fresh_table m.tree within.segments ∙ sym size in
    let long = ap length written ∙ length-append table (drop count old) in
    let rest = length-drop count old in
    record {
      room = omega arith;
      size = omega arith;
      image = ap (take count) written ∙ take_at table (drop count old) count whole ∙ ap table_image (sym owner);
    }

-- ---- its own module or another

own_number : (m : Named) → belongs_to m (Some m) ≡ true
own_number m = eq-eqb m.number m.number refl

-- what belongs to the module is prepared for it
pub own_prepared : (pages : ℕ) (m : Named) (x : TableContents) → x.holds ≡ Some m → x ≡ prepared pages m Table x
own_prepared pages m x own =
    let is : belongs_to m x.holds ≡ true = subst (λ (o : Option Named). belongs_to m o ≡ true) (sym own) (own_number m) in
    let entries = sym (cond-true (belongs_to m x.holds) x.entries (table_image (Some m)) is) in
    λ i. record { entries = entries i; holds = own i }

-- what was written over another module's table was prepared
pub other_prepared : (pages : ℕ) (m : Named) (x new : TableContents) → belongs_to m x.holds ≡ false → IsTableOf new m → new ≡ prepared pages m Table x
other_prepared pages m x new other is =
    let entries = is.1 ∙ sym (cond-false (belongs_to m x.holds) x.entries (table_image (Some m)) other) in
    let holds = is.0 in
    λ i. record { entries = entries i; holds = holds i }
