-- The engine's format, and the parts in which the code takes it from bytes.
use Rattle.gx_geometry.proofs.Words.{Format, Left, List, [], bytes_written, current_format, false, geometry_format, geometry_parts, lighting_format}
use Rattle.gx_geometry.proofs.Words.{read_format, refl, results_format, subst, sym, true, ℕ, ◌∷◌, ◌≡◌}
use Rattle.gx_geometry.specs.States.{GeometryState}
use Rattle.ds_state.proofs.Opened.{open_by, open_reads}

-- the fields of three of them stand in the whole
parts_open : open_by (false ∷ true ∷ true ∷ true ∷ []) geometry_parts ≡ geometry_format
unfolding geometry_format geometry_parts current_format lighting_format results_format
parts_open = refl

pub geometry_reads : (at : ℕ) (l : Left) → read_format geometry_format at l ≡ read_format geometry_parts at l
geometry_reads at l =
    subst (λ (f : Format GeometryState GeometryState). read_format f at l ≡ read_format geometry_parts at l) parts_open
    (open_reads (false ∷ true ∷ true ∷ true ∷ []) geometry_parts at l)

pub geometry_writes : (before : List ℕ) (g : GeometryState) → bytes_written geometry_format before g ≡ bytes_written geometry_parts before g
unfolding geometry_format geometry_parts current_format lighting_format results_format
geometry_writes before g = refl
