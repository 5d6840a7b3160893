use Rattle.search.proofs.findings.Findings.reserve.Goals as goal

pub returns-in_err-reserve : goal.returns-in_err-reserve
returns-in_err-reserve c = rw c.reserve.ensures.unchanged c.self.view_is

pub invariant_of-self-in_err-reserve-2 : goal.invariant_of-self-in_err-reserve-2
invariant_of-self-in_err-reserve-2 c = rw (c.reserve.ensures.unchanged, c.reserve-2.ensures.items) c.self.invariant

pub returns-in_err-reserve-2 : goal.returns-in_err-reserve-2
returns-in_err-reserve-2 c = rw (c.reserve.ensures.unchanged, c.reserve-2.ensures.items) c.self.view_is

pub invariant_of-self-2 : goal.invariant_of-self-2
invariant_of-self-2 c = rw (c.reserve.ensures.unchanged, c.reserve-2.ensures.items, c.reserve-3.ensures.items) c.self.invariant

pub returns : goal.returns
returns c = rw (c.reserve.ensures.unchanged, c.reserve-2.ensures.items, c.reserve-3.ensures.items) c.self.view_is
