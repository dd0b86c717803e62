use Rattle.many.proofs.Inputs.{mask_none, one_mask, two_mask}
use Rattle.many.proofs.images.mark.Goals as goal

pub returns-in-One : goal.returns-in-One
returns-in-One c =
    let t = c.toggle in
    λ ms e o. rw c.in-One.is (one_mask ms c.in-One.i t.new.images (t.ensures ms 0 e (mask_none ms c.args.images.now o)))

pub returns-in-Two : goal.returns-in-Two
returns-in-Two c =
    let t = c.toggle-in-Two in
    let u = c.toggle-in-Two-2 in
    λ ms e o. rw c.in-Two.is (two_mask ms c.in-Two.i c.in-Two.j u.new.images (u.ensures ms _ e (t.ensures ms 0 e (mask_none ms c.args.images.now o))))
