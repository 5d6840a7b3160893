use Rattle.hall.proofs.seats.begin.Goals as goal

pub returns-clause-begun : goal.returns-clause-begun
returns-clause-begun c = λ i. record { opened_at = c.args.opened_at; search = c.in_ok-open_in.ensures i }
