mod Cookies
