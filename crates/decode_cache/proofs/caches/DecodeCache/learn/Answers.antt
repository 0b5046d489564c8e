use Rattle.std.proofs.Common.{ℕ, arith}
use Rattle.std.proofs.lemmas.List.{map-set}
use Rattle.std.proofs.lemmas.Grind.{elements}
use Rattle.decode_cache.specs.declared.caches.CacheEntry.{CacheEntry}
use Rattle.decode_cache.proofs.caches.DecodeCache.learn.Goals as goal

pub returns : goal.returns
returns g c =
    let number : CacheEntry g.row.VERSION g.row.BITS → ℕ = λ e. e.number in
    let m = map-set number c.self.inside.entries.items c.place.result c.learn.new.self in
    record {
      keeps = grind (arith, m, c.self.view_is, c.learn.ensures, c.place.ensures);
      kept = grind (arith, elements, m, c.self.view_is, c.learn.ensures, c.place.ensures, c.self.invariant);
    }
