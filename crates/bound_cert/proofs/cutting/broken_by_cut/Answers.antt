use Rattle.std.proofs.Common.{◌≡◌, false, true, sym, ap, ◌∙◌, inl, inr}
use Rattle.std.specs.FinSet as set
use Rattle.task_kit.specs.Kept.{cut_meaning}
use Rattle.bound_cert.proofs.RoomLemmas.{made_set, charged_more_at, overcharged_at}
use Rattle.bound_cert.proofs.LineLemmas.{cut_breaks, charge_breaks}
use Rattle.bound_cert.proofs.cutting.broken_by_cut.Goals as goal

pub returns-then-not-is_subset-clause-broken : goal.returns-then-not-is_subset-clause-broken
returns-then-not-is_subset-clause-broken g c before k states charged =
    let task = g.T.TaskView.seen c.args.task.now in
    let state = c.args.state.now.members in
    let cut = cut_meaning task.atoms c.args.cut.now in
    let made : c.make_set.new.among.members ≡ cut.among = made_set task c.args.cut.now.lacks c.as_slice.result.now c.args.scratch.now.all c.make_set.new.among c.requires.scratch.all c.as_slice.ensures c.make_set.ensures in
    cut_breaks task k states state before cut (inl (ap (set.is_subset state) (sym made) ∙ sym c.is_subset.ensures ∙ c.if-not-is_subset.true))

pub returns-then-is_subset-clause-broken : goal.returns-then-is_subset-clause-broken
returns-then-is_subset-clause-broken g c before k states charged =
    let task = g.T.TaskView.seen c.args.task.now in
    let state = c.args.state.now.members in
    let cut = cut_meaning task.atoms c.args.cut.now in
    let made : c.make_set.new.among.members ≡ cut.among = made_set task c.args.cut.now.lacks c.as_slice.result.now c.args.scratch.now.all c.make_set.new.among c.requires.scratch.all c.as_slice.ensures c.make_set.ensures in
    cut_breaks task k states state before cut (inr (sym (λ i. set.is_subset (c.goal.ensures i).members (made i)) ∙ sym c.is_subset-2.ensures ∙ c.if-is_subset.true))

pub returns-then-not-charge-clause-broken : goal.returns-then-not-charge-clause-broken
returns-then-not-charge-clause-broken g c before k states charged =
    let task = g.T.TaskView.seen c.args.task.now in
    let state = c.args.state.now.members in
    let cut = cut_meaning task.atoms c.args.cut.now in
    let made : c.make_set.new.among.members ≡ cut.among = made_set task c.args.cut.now.lacks c.as_slice.result.now c.args.scratch.now.all c.make_set.new.among c.requires.scratch.all c.as_slice.ensures c.make_set.ensures in
    let has : set.is_subset state cut.among ≡ true = ap (set.is_subset state) (sym made) ∙ sym c.is_subset.ensures ∙ c.if-not-is_subset.false in
    let lacks : set.is_subset task.goal cut.among ≡ false = sym (λ i. set.is_subset (c.goal.ensures i).members (made i)) ∙ sym c.is_subset-2.ensures ∙ c.if-is_subset.false in
    let over = c.charge.ensures.over c.if-not-charge.true in
    charge_breaks task k states state before cut has lacks over.0 (overcharged_at task before cut c.args.scratch.now.charged.items charged c.make_set.new.among.members made over.0 over.1 over.2)

pub returns-clause-kept : goal.returns-clause-kept
returns-clause-kept g c before k states charged =
    let task = g.T.TaskView.seen c.args.task.now in
    let state = c.args.state.now.members in
    let cut = cut_meaning task.atoms c.args.cut.now in
    let made : c.make_set.new.among.members ≡ cut.among = made_set task c.args.cut.now.lacks c.as_slice.result.now c.args.scratch.now.all c.make_set.new.among c.requires.scratch.all c.as_slice.ensures c.make_set.ensures in
    let has : set.is_subset state cut.among ≡ true = ap (set.is_subset state) (sym made) ∙ sym c.is_subset.ensures ∙ c.if-not-is_subset.false in
    let lacks : set.is_subset task.goal cut.among ≡ false = sym (λ i. set.is_subset (c.goal.ensures i).members (made i)) ∙ sym c.is_subset-2.ensures ∙ c.if-is_subset.false in
    (has, lacks, (charged_more_at task before cut c.args.scratch.now.charged.items charged c.make_set.new.among.members made c.charge.new.charged.items (c.charge.ensures.sums c.if-not-charge.false) (c.charge.ensures.within c.if-not-charge.false)).within)

pub returns-clause-charged : goal.returns-clause-charged
returns-clause-charged g c before charged =
    let task = g.T.TaskView.seen c.args.task.now in
    let state = c.args.state.now.members in
    let cut = cut_meaning task.atoms c.args.cut.now in
    let made : c.make_set.new.among.members ≡ cut.among = made_set task c.args.cut.now.lacks c.as_slice.result.now c.args.scratch.now.all c.make_set.new.among c.requires.scratch.all c.as_slice.ensures c.make_set.ensures in
    charged_more_at task before cut c.args.scratch.now.charged.items charged c.make_set.new.among.members made c.charge.new.charged.items (c.charge.ensures.sums c.if-not-charge.false) (c.charge.ensures.within c.if-not-charge.false)
