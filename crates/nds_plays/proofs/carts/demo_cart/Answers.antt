use Rattle.nds_plays.proofs.Words.{IsAccepted, subst, sym}
use Rattle.nds_plays.proofs.Bodies.{all_put, demo_accepted}
use Rattle.nds_plays.proofs.carts.demo_cart.Goals as goal

pub returns : goal.returns
returns c = (let file = all_put c.args.number c.in_ok-after.after _ _ _ _ _ _ _ _ c.put_body-2.new.file.items c.in_ok-file.ensures.items c.in_ok-put_words.ensures c.in_ok-put_words-2.ensures
    c.in_ok-put_words-3.ensures c.in_ok-put_words-4.ensures c.in_ok-after.ensures.0 c.in_ok-after.ensures.1 c.in_ok-put_words-5.ensures c.in_ok-put_words-6.ensures c.in_ok-put_body.ensures.0 in
    record { file = file; accepted = subst IsAccepted (sym file) (demo_accepted c.args.number) })
