-- `theorem_headers::headers_read_back` meets its contract, which is the statement that a written header is read back.
use Rattle.theorem_headers.proofs.HeadersBack.{headers_back}
use Rattle.theorem_headers.proofs.headers_read_back.Goals as goal

pub returns : goal.returns
returns c = headers_back
