use Rattle.std.proofs.Common.{◌≡◌, ℕ, ◌∙◌, map, replicate, ap}
use Rattle.decode_cache.specs.Kept.{kept_at_start, places_of}
use Rattle.decode_cache.specs.declared.caches.CacheEntry.{CacheEntry}
use Rattle.decode_cache.proofs.Places.{map_replicate}
use Rattle.decode_cache.proofs.caches.DecodeCache.new.Goals as goal

pub returns : goal.returns
unfolding kept_at_start
returns g c =
    let number : CacheEntry g.row.VERSION g.row.BITS → ℕ = λ e. e.number in
    let n : ℕ = places_of g.row.BITS in
    let many : c.places.result ≡ n = c.places.ensures.value in
    let same : c.in_ok-vec.field-0.items ≡ replicate c.places.result c.made.result = c.in_ok-vec.ensures.items_if_clones_equal (λ y e. e) in
    ap (λ es. map number es) same
    ∙ ap (λ k. map number (replicate k c.made.result)) many
    ∙ map_replicate number n c.made.result
    ∙ ap (λ k. replicate n k) c.made.ensures
