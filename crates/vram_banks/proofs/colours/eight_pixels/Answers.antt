use Rattle.vram_banks.proofs.Words.{List, ap, arith, bit_and, get_or, length, map, opaque_pixel, sym, ℕ, ◌%◌, ◌+◌, ◌^◌, ◌∙◌, ◌≡◌}
use Rattle.std.proofs.lemmas.Simd.{put_chunk_whole}
use Rattle.vram_banks.proofs.TableLemmas.{lane_is_pixel, pixels_are}
use Rattle.vram_banks.proofs.colours.eight_pixels.Goals as goal

pub returns : goal.returns
returns c = λ i lt.
    let colours : List ℕ = c.eight_colours.result in
    let are : c.eight_raised.result ≡ map (λ (n : ℕ). (n + 2 ^ 15) % 65536) (map (λ (n : ℕ). bit_and n 0x7FFF) colours) =
    c.eight_raised.ensures ∙ ap (map (λ (n : ℕ). (n + 2 ^ 15) % 65536)) c.eight_low.ensures in
    ap (λ (l : List ℕ). get_or l i 0) (put_chunk_whole c.args.into.now c.eight_raised.result
    (c.requires.room ∙ sym (ap length are ∙ pixels_are colours ∙ c.eight_colours.ensures.long)) ∙ are)
    ∙ lane_is_pixel colours i (let long = c.eight_colours.ensures.long in omega (arith, long, lt))
    ∙ ap opaque_pixel (c.eight_colours.ensures.each i lt)
