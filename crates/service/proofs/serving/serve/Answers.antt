-- Behind the line that tells the port comes that of the number of connections, or a fault.
use Rattle.std.proofs.lemmas.Result.{err_from_is_err_and}
use Rattle.service.proofs.ServedLemmas.{ServeWrote-part}
use Rattle.service.proofs.WrittenLemmas.{Appends-more}
use Rattle.service.proofs.serving.serve.Goals as goal

pub returns-in_err-count : goal.returns-in_err-count
returns-in_err-count g c =
    let failed = c.from_residual in
    let p = err_from_is_err_and failed.result failed.ensures.1 in
    rw (p.1, p.2) (record { count = tt; wrote = c.in_err-count.ensures.fault })

pub returns-in_default-tell : goal.returns-in_default-tell
returns-in_default-tell g c =
    let told = c.in_ok-count.ensures.told in
    record {
      count = tt;
      wrote = ServeWrote-part c.args.options.accept told.0 c.in_ok-count.count _ _ _ told.1 c.in_ok-count.ensures.count told.2 c.in_default-tell.ensures.err;
    }

pub returns : goal.returns
returns g c =
    let told = c.in_ok-count.ensures.told in
    record { count = c.in_ok-count.ensures.count; wrote = (told.0, told.1, Appends-more _ _ _ _ _ told.2 c.in-Ok-tell.ensures.ok) }
