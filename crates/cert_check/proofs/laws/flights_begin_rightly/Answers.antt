use Rattle.cert_check.proofs.LogLemmas.{flights_begin}
use Rattle.cert_check.proofs.laws.flights_begin_rightly.Goals as goal

pub returns : goal.returns
returns c = flights_begin
