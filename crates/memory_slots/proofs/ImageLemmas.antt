-- Bytes that were written from the image of a loaded module.
use Rattle.std.proofs.Common.{◌≡◌, ℕ, ◌*◌, ◌≤◌, List, length, sym, ◌∙◌}
use Rattle.std.specs.Prelude.{Bool, Some, slice_index}
use Rattle.wasm_types.specs.Tree.{ModuleTree}
use Rattle.wasm_types.specs.declared.limits.LoadLimits.{LoadLimits}
use Rattle.wasm_spec.specs.Store.{fresh_store, page_size}
use Rattle.wasm_spec.proofs.ResultLaws.{length-fresh_memory}
use Rattle.wasm_spec.proofs.StoreSizes.{minimum_within}
use Rattle.pool_model.specs.Contents.{Named, filled, HasImageOutside}
use Rattle.pool_model.proofs.Images.{from_bytes, filled-at}
use Rattle.wasm_spec.specs.Within.{IsWithin}
use Rattle.sparse_bytes.specs.SparseBytes.{HasBlock, byte_at}
use Rattle.initial_image.specs.declared.image.Image.{Image}
use Rattle.initial_image.specs.Image.{IsImageOf}
use Rattle.block_restore.specs.Images.{HasImage, KeepsImage, IsZeroOutside}
use Rattle.memory_slots.specs.Written.{HasDataIn}

module _ (limits : LoadLimits) (m : ModuleTree) (image : Image) (within : IsWithin limits m) (is : IsImageOf m image) where
  fresh_fits : length (fresh_store m).memory ≤ limits.pages * page_size
  fresh_fits = minimum_within m.memories limits.pages (length (fresh_store m).memory) (length-fresh_memory m within.segments) within.pages

  -- a memory filled with the fresh one has the image's bytes
  filled_image : (i : ℕ) → slice_index (filled limits.pages (fresh_store m).memory) i ≡ byte_at image.memory i
  filled_image i = filled-at limits.pages (fresh_store m).memory i ∙ sym (is.memory i)

  pub image_written : (bytes : List ℕ) → length bytes ≡ limits.pages * page_size → HasImage bytes (byte_at image.memory) → bytes ≡ filled limits.pages (fresh_store m).memory
  image_written bytes room has = from_bytes limits.pages (fresh_store m).memory bytes room fresh_fits (λ i lt. has i lt ∙ is.memory i)

  pub image_kept : (bytes : List ℕ) (marks : List Bool) → HasImageOutside (filled limits.pages (fresh_store m).memory) bytes marks → KeepsImage bytes marks (byte_at image.memory)
  image_kept bytes marks outside i lt free = outside i free ∙ filled_image i

  pub image_zeros : (room : ℕ) (written : List Bool) → IsZeroOutside room written (byte_at image.memory) → IsZeroOutside room written (slice_index (filled limits.pages (fresh_store m).memory))
  image_zeros room written zeros i lt free = filled_image i ∙ zeros i lt free

-- a block in which the image of a module was written to has data of that module
pub image_least : (m : Named) (image : Image) → IsImageOf m.tree image → (k : ℕ) → HasBlock image.memory k → HasDataIn (Some m) k
image_least m image is k has = is.blocks k has
