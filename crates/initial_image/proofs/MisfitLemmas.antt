-- The first misfit of a module, from that of its element segments and that of its data segments.
use Rattle.std.proofs.Common.{◌≡◌, refl, sym, ap, ◌∙◌}
use Rattle.std.specs.Prelude.{Option, Some, None, map}
use Rattle.std.specs.Option.{option_or}
use Rattle.std.specs.List.{enumerate_from}
use Rattle.std.proofs.lemmas.List.Folds.{find-append}
use Rattle.wasm_types.specs.Tree.{ModuleTree}
use Rattle.wasm_spec.specs.Store.{Extent, element_extent, data_extent, first_misfit}
use Rattle.initial_image.specs.declared.image.ImageFault.{ImageFault}
use Rattle.initial_image.specs.declared.image.ImageFault.TheVariants.{Segment, NoMemory}
use Rattle.initial_image.specs.Segments.{Names, is_past, first_element_misfit, first_data_misfit}

first_misfit-or : (m : ModuleTree) → first_misfit m ≡ option_or (first_element_misfit m) (first_data_misfit m)
first_misfit-or m = find-append is_past (map (element_extent m) (enumerate_from 0 m.element_segments)) (map (data_extent m) (enumerate_from 0 m.data_segments))

none-first : (e d : Option Extent) → option_or e d ≡ None → e ≡ None
none-first None d none = refl
none-first (Some extent) d none = absurd (cc)

-- where no segment is a misfit, no element segment is
pub elements-fit : (m : ModuleTree) → first_misfit m ≡ None → first_element_misfit m ≡ None
elements-fit m none = none-first (first_element_misfit m) (first_data_misfit m) (sym (first_misfit-or m) ∙ none)

pub first_misfit-none : (m : ModuleTree) → first_element_misfit m ≡ None → first_data_misfit m ≡ None → first_misfit m ≡ None
first_misfit-none m elements datas = first_misfit-or m ∙ ap (λ (e : Option Extent). option_or e (first_data_misfit m)) elements ∙ datas

pub Names-element : (m : ModuleTree) (f : ImageFault) → Names (first_element_misfit m) f → Names (first_misfit m) f
Names-element m (Segment misfit) h = first_misfit-or m ∙ ap (λ (e : Option Extent). option_or e (first_data_misfit m)) h
Names-element m NoMemory h = tt

pub Names-data : (m : ModuleTree) (f : ImageFault) → first_element_misfit m ≡ None → Names (first_data_misfit m) f → Names (first_misfit m) f
Names-data m (Segment misfit) none h = first_misfit-or m ∙ ap (λ (e : Option Extent). option_or e (first_data_misfit m)) none ∙ h
Names-data m NoMemory none h = tt
