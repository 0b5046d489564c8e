use Rattle.nds_top.proofs.Words.{inl, refl, take}
use Rattle.nds_top.proofs.listings.assemble.Goals as goal

pub returns-in-Ok-put_all : goal.returns-in-Ok-put_all
returns-in-Ok-put_all g c =
    record { answer = inl (c.in-Ok.text.items, take c.in-Ok-assemble.length c.assemble.new.text, c.in-Ok.ensures.ok, rw c.as_mut_slice-text.ensures.value at c.in-Ok-assemble.ensures.ok.1, c.in-Ok-put_all.ensures.ok, refl); files = c.in-Ok.ensures.files }

pub returns : goal.returns
returns g c =
    record { answer = inl (c.in-Ok.text.items, take c.in-Ok-assemble.length c.assemble.new.text, c.in-Ok.ensures.ok, rw c.as_mut_slice-text.ensures.value at c.in-Ok-assemble.ensures.ok.1, (c.in-Err-put_all.ensures.cause, c.in-Err-put_all.ensures.err), refl); files = c.in-Ok.ensures.files }
