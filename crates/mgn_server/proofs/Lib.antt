-- For sessions and the places of seats.
mod Facts
