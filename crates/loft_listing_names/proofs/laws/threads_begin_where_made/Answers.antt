use Rattle.loft_listing_names.proofs.Threads.{starts_begin, clients_begin}
use Rattle.loft_listing_names.proofs.laws.threads_begin_where_made.Goals as goal

pub returns-clause-starts : goal.returns-clause-starts
returns-clause-starts c = starts_begin

pub returns-clause-clients : goal.returns-clause-clients
returns-clause-clients c = clients_begin
